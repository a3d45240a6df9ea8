use Rattle.std.proofs.Common.{◌≡◌, ◌∙◌, sym, true}
use Rattle.ild_build_leaf.specs.Kept.{is_before}
use Rattle.ild_build_leaf.proofs.Ordered.{all_more}
use Rattle.ild_build_leaf.proofs.order.count_before.Goals as goal

pub loop-i-preserved : goal.loop-i-preserved
loop-i-preserved c =
    all_more (λ n. is_before c.args.fields.now c.args.key.now n ≡ true) c.args.places.now c.loop-i.i c.loop-i-test.true (sym c.is_before.ensures ∙ c.if-not-is_before.false) c.loop-i.invariant
