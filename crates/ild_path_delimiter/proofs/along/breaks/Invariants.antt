use Rattle.std.proofs.Common.{◌<◌, ℕ, Bool, List, length}
use Rattle.ild_path_delimiter.proofs.Climbing.{Changed, Claim}
use Rattle.ild_path_delimiter.specs.Tells.{AreHoldersOf}
use Rattle.ild_schema.specs.Value.{Value}
use Rattle.ild_typed.specs.OfType.{TestsKeys}
use Rattle.ild_view.specs.View.{IsView, slot_of, table_of}
use Rattle.ild_path_delimiter.proofs.along.breaks.Given as goal

abbrev pub invariant-loop-k : goal.invariant-loop-k
invariant-loop-k l = (l.k < length l.path) × (AreHoldersOf l.root l.path l.views → (is_key : ℕ → List ℕ → Bool) (f w v : Value) → TestsKeys (table_of l.root) is_key → IsView l.root f → (m : Changed (table_of l.root) is_key l.edit w (slot_of l.root, f) l.path l.k v)
    → Claim (table_of l.root) is_key l.edit w (slot_of l.root, f) l.path l.k v m l.at)

abbrev pub decreases-loop-k : goal.decreases-loop-k
decreases-loop-k l = l.k
