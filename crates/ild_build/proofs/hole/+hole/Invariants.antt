use Rattle.std.proofs.Common.{◌≡◌, ◌<◌, ℕ, Some, false}
use Rattle.ild_schema.specs.declared.number.Slot.{Slot}
use Rattle.ild_schema.specs.Value.{Value, height}
use Rattle.ild_schema.specs.ValueSeen.{value_of}
use Rattle.ild_typed.specs.Judged.{has_hole}
use Rattle.ild_build.specs.PartAt.{value_part_at}
use Rattle.ild_build.proofs.hole.+hole.Given as goal

abbrev pub decreases-has_hole : goal.decreases-has_hole
decreases-has_hole l = height (value_of l.val.now)

abbrev pub invariant-loop-i : goal.invariant-loop-i
invariant-loop-i l = (j : ℕ) (u : Slot) (w : Value) → j < l.i → value_part_at (Some l.def) (value_of l.val) j ≡ Some (u, w) → has_hole l.acc u w ≡ false
