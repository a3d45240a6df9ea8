use Rattle.std.proofs.Common.{ℕ, sym, subst, arith}
use Rattle.ild_cbor.proofs.Passes.{RowLeft, passed, passed_all, passed_leaf, started}
use Rattle.ild_cbor.proofs.skip.skip.Goals as goal

pub loop-left-preserved : goal.loop-left-preserved
loop-left-preserved c = λ ds rest h.
    subst (λ (k : ℕ). RowLeft c.behind-parts.result.1.now k rest) (sym c.saturating_add-left.ensures)
    (passed c.loop-left.rest.now c.loop-left.left rest c.behind-parts.result.0 c.behind-parts.result.1.now (c.loop-left.invariant ds rest h) (omega arith)
    (started c.loop-left.rest.now c.of-start.result c.behind-parts.result.0 c.behind-parts.result.1.now c.of-start.ensures.start c.behind-parts.ensures.gives))

pub returns : goal.returns
returns c = λ ds rest h. passed_all c.loop-left.rest.now c.loop-left.left rest (c.loop-left.invariant ds rest h) (omega arith)

pub loop-left-preserved-in-Some : goal.loop-left-preserved-in-Some
loop-left-preserved-in-Some c = λ ds rest h.
    let small = c.loop-left.auto.left-fits in
    passed_leaf c.loop-left.rest.now c.loop-left.left rest c.in-Some.tail.now (c.loop-left.invariant ds rest h) (omega arith) (omega arith) c.in-Some.ensures.gives
