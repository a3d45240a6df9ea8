use Rattle.std.proofs.Common.{◌-◌, length}
use Rattle.ild_schema.specs.Value.{Value}
use Rattle.ild_view.proofs.Reaching.{Walked}
use Rattle.ild_view.specs.View.{IsView, slot_of, table_of}
use Rattle.ild_view.proofs.view.View.at.Given as goal

abbrev pub invariant-loop-k : goal.invariant-loop-k
invariant-loop-k l = (f : Value) → IsView l.self f → Walked (table_of l.self) l.from l.k (slot_of l.self, f) l.path l.view

abbrev pub decreases-loop-k : goal.decreases-loop-k
decreases-loop-k l = length l.segments - l.k
