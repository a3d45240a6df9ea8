use Rattle.std.proofs.Common.{◌∙◌}
use Rattle.ild_links_session.proofs.Holding.{begun_some, block_inside, value_inside}
use Rattle.ild_links_session.proofs.Within.{looks_over}
use Rattle.ild_links_session.proofs.looking.look_inside.Goals as goal
use Rattle.ild_run_document.specs.Document.{begun_in}
use Rattle.ild_script_meaning.specs.Ask.{asked_by}

pub look_over-found-requires-clause-held : goal.look_over-found-requires-clause-held
look_over-found-requires-clause-held g c = λ names.
    let b = begun_some (begun_in c.args.inner.now) c.requires.inside in
    rw (c.doc.ensures, c.take_own-own.ensures.same.0, c.take_own-own.ensures.taken) (block_inside c.carried_over_batch.ensures c.args.inner.now (g.K.Store.moment c.args.store.now) b.0 names b.1 c.requires.ready)

pub look_over-found-requires-clause-stands : goal.look_over-found-requires-clause-stands
look_over-found-requires-clause-stands g c = λ names.
    let b = begun_some (begun_in c.args.inner.now) c.requires.inside in
    rw (c.doc.ensures, c.take_own-own.ensures.same.0, c.take_own-own.ensures.taken) (value_inside c.carried_over_batch.ensures c.args.inner.now (g.K.Store.moment c.args.store.now) b.0 names b.1 c.requires.ready)

pub returns : goal.returns
returns g c =
    let b = begun_some (begun_in c.args.inner.now) c.requires.inside in
    looks_over c.carried_over_batch.ensures c.later_beneath.ensures c.args.inner.now c.give_own.new.self b.0 (asked_by c.args.line.now.verb c.args.line.now.path c.args.json.now)
    (g.K.Store.moment c.args.store.now) (g.K.Store.moment c.look_over-found.new.store) c.look_over-found.result b.1 (c.give_own.ensures.same.0 ∙ c.take_own-own.ensures.same.0)
    (c.give_own.ensures.same.1 ∙ c.take_own-own.ensures.same.1) (rw c.give_own.ensures.given (rw (c.doc.ensures, c.take_own-own.ensures.same.0, c.take_own-own.ensures.taken) at c.look_over-found.ensures))
