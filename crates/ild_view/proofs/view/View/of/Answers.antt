use Rattle.std.proofs.Common.{refl, arith}
use Rattle.std.proofs.Math.Logic.{∥∥₁_map}
use Rattle.ild_view.proofs.view.View.of.Goals as goal

pub invariant_of-result : goal.invariant_of-result
invariant_of-result c = record {
  within = c.requires.within;
  safe = c.requires.safe;
  numbered = omega arith;
  placed = refl;
  stands = ∥∥₁_map c.requires.front (λ h. record { value = h.value; room = h.room; tree = h.tree; stands = h.stands; front = h.front });
}
