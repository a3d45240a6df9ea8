use Rattle.ild_links_session.proofs.Behind.{looks_outside}
use Rattle.ild_links_session.proofs.Holding.{block_outside, value_outside}
use Rattle.ild_links_session.proofs.looking.look_outside.Goals as goal
use Rattle.ild_script_meaning.specs.Ask.{asked_by}

pub look-found-requires-clause-held : goal.look-found-requires-clause-held
look-found-requires-clause-held g c = rw c.doc.ensures (block_outside c.args.inner.now (g.K.Store.moment c.args.store.now) c.requires.outside c.requires.ready)

pub look-found-requires-clause-stands : goal.look-found-requires-clause-stands
look-found-requires-clause-stands g c = rw c.doc.ensures (value_outside c.args.inner.now (g.K.Store.moment c.args.store.now) c.requires.outside c.requires.ready)

pub returns-in-Some : goal.returns-in-Some
returns-in-Some g c = λ path is.
    looks_outside c.args.inner.now c.replace.new.self (asked_by c.args.line.now.verb c.args.line.now.path c.args.json.now) path (g.K.Store.moment c.args.store.now) c.look-found.result.0 (g.K.Store.moment c.look-found.new.store)
    c.requires.outside c.replace.ensures.same.0 (rw c.replace.ensures.doc (rw (c.doc.ensures, c.in-Some.is) at c.look-found.ensures path is))

pub returns-in_default : goal.returns-in_default
returns-in_default g c = λ path is.
    looks_outside c.args.inner.now c.args.inner.now (asked_by c.args.line.now.verb c.args.line.now.path c.args.json.now) path (g.K.Store.moment c.args.store.now) c.look-found.result.0 (g.K.Store.moment c.look-found.new.store)
    c.requires.outside c.requires.outside (rw (c.doc.ensures, c.in_default.is) at c.look-found.ensures path is)
