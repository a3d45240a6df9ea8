use Rattle.std.proofs.Common.{◌≡◌, ◌≤◌, length}
use Rattle.ild_schema.specs.Value.{Value}
use Rattle.ild_view.specs.View.{IsView, slot_of, table_of}
use Rattle.ild_path_inward.proofs.Halting.{GoesOn}
use Rattle.ild_path_inward.proofs.halt.halt_in.Given as goal

abbrev pub invariant-loop-segment : goal.invariant-loop-segment
invariant-loop-segment l =
    ((f : Value) → IsView l.root f → GoesOn (table_of l.root) l.room (slot_of l.root, f) l.segments l.view l.left l.free) × (length l.left ≤ length l.segments) × (table_of l.view ≡ table_of l.root)

abbrev pub decreases-loop-segment : goal.decreases-loop-segment
decreases-loop-segment l = length l.left
