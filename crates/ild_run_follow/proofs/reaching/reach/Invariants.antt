use Rattle.std.proofs.Common.{◌≤◌, ◌-◌, length}
use Rattle.ild_run_follow.proofs.Walking.{Walked}
use Rattle.ild_schema.specs.Value.{Value}
use Rattle.ild_view.specs.View.{IsView, slot_of, table_of}
use Rattle.ild_run_follow.proofs.reaching.reach.Given as goal

abbrev pub invariant-loop-k : goal.invariant-loop-k
invariant-loop-k l = ((f : Value) → IsView l.view f → Walked (table_of l.view) l.from l.k l.room l.left (slot_of l.view, f) l.path l.at) × (l.left ≤ l.room)

abbrev pub decreases-loop-k : goal.decreases-loop-k
decreases-loop-k l = length l.segments - l.k
