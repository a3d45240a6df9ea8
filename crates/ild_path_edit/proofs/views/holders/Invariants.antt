use Rattle.std.proofs.Common.{length, ◌-◌, ◌≤◌}
use Rattle.ild_path_edit.proofs.Viewing.{Viewed}
use Rattle.ild_schema.specs.Value.{Value}
use Rattle.ild_view.specs.View.{IsView, slot_of, table_of}
use Rattle.ild_path_edit.proofs.views.holders.Given as goal

abbrev pub invariant-loop-k : goal.invariant-loop-k
invariant-loop-k l = (l.k ≤ length l.path) × ((f : Value) → IsView l.root f → Viewed (table_of l.root) (slot_of l.root, f) l.path l.k l.views.items l.view)

abbrev pub decreases-loop-k : goal.decreases-loop-k
decreases-loop-k l = length l.segments - l.k
