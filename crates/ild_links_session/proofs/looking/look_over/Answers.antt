use Rattle.std.proofs.Common.{◌∙◌, ℕ, ap, sym}
use Rattle.ild_links_session.proofs.Holding.{block_over, value_over}
use Rattle.ild_links_session.proofs.Within.{crosses_over}
use Rattle.ild_links_session.proofs.looking.look_over.Goals as goal
use Rattle.ild_script_meaning.specs.Ask.{asked_by}

pub look-found-requires-clause-held : goal.look-found-requires-clause-held
look-found-requires-clause-held g c =
    block_over c.args.doc.now (g.K.Store.moment c.args.store.now) (g.K.Store.moment c.new-batch.result.store.now) c.args.own.now c.new-batch.result.own.now c.new-batch.result.gets c.new-batch.result.puts
    (c.new-batch.result.store.ghost_name, c.new-batch.result.own.ghost_name) (c.new-batch.result.store.ghost_name, c.new-batch.result.own.ghost_name) (ap g.K.Store.moment c.new-batch.ensures.same_store.1) c.new-batch.ensures.same_own.1
    (c.requires.held (c.new-batch.result.store.ghost_name, c.new-batch.result.own.ghost_name))

pub look-found-requires-clause-stands : goal.look-found-requires-clause-stands
look-found-requires-clause-stands g c =
    value_over c.args.doc.now (g.K.Store.moment c.args.store.now) (g.K.Store.moment c.new-batch.result.store.now) c.args.own.now c.new-batch.result.own.now c.new-batch.result.gets c.new-batch.result.puts
    (c.new-batch.result.store.ghost_name, c.new-batch.result.own.ghost_name) (c.new-batch.result.store.ghost_name, c.new-batch.result.own.ghost_name) (ap g.K.Store.moment c.new-batch.ensures.same_store.1) c.new-batch.ensures.same_own.1
    (c.requires.stands (c.new-batch.result.store.ghost_name, c.new-batch.result.own.ghost_name))

pub returns : goal.returns
returns g c =
    crosses_over c.later_beneath.ensures c.args.doc.now c.look-found.result.1 (asked_by c.args.line.now.verb c.args.line.now.path c.args.json.now) c.args.own.now c.new-batch.result.own.now c.own-1.given.0 c.look-found.new.store.own.now
    (g.K.Store.moment c.args.store.now) (g.K.Store.moment c.new-batch.result.store.now) (g.K.Store.moment c.store-1.given.0) (g.K.Store.moment c.look-found.new.store.store.now) c.look-found.result.0
    c.new-batch.result.gets c.new-batch.result.puts c.look-found.new.store.gets c.look-found.new.store.puts (c.new-batch.result.store.ghost_name, c.new-batch.result.own.ghost_name)
    (c.look-found.new.store.store.ghost_name, c.look-found.new.store.own.ghost_name) (ap g.K.Store.moment c.new-batch.ensures.same_store.1) c.new-batch.ensures.same_own.1 c.new-batch.ensures.counts.0 c.new-batch.ensures.counts.1
    (λ same. ap g.K.Store.moment (c.store-1.given.1 (sym (ap (λ (z : ℕ × ℕ). z.0) same ∙ c.new-batch.ensures.same_store.0))))
    (λ same. c.own-1.given.1 (sym (ap (λ (z : ℕ × ℕ). z.1) same ∙ c.new-batch.ensures.same_own.0))) c.look-found.ensures
