use Rattle.std.proofs.Common.{◌∙◌, ap, sym, ℕ, zero}
use Rattle.ild_edges.specs.Store.{Moment}
use Rattle.ild_dirty_tests.proofs.links.puts_nothing.Goals as goal

pub returns : goal.returns
returns g c =
    let first = c.put_twice.ensures.beneath zero in
    ap (λ (m : Moment). m.puts) (ap g.K.Store.moment (c.store-1.given.1 (sym (ap (λ (x : ℕ × ℕ). x.0) first.names ∙ c.new-batch.ensures.same_store.0))))
    ∙ first.puts ∙ ap (λ (m : Moment). m.puts) (ap g.K.Store.moment c.new-batch.ensures.same_store.1)
