use Rattle.std.proofs.Common.{◌≡◌, ◌≤◌, ◌-◌, ℕ, List, ◌∷◌, Some, length, true}
use Rattle.ild_schema.specs.Value.{Value}
use Rattle.ild_typed.specs.At.{InSlot, seen}
use Rattle.ild_view.specs.View.{IsView, slot_of, table_of}
use Rattle.ild_path_holder.specs.Along.{holder_at, is_holder}
use Rattle.ild_path_holder.proofs.Walking.{Walked}
use Rattle.ild_path_holder.proofs.along.last_holder.Given as goal

abbrev pub invariant-loop-k : goal.invariant-loop-k
invariant-loop-k l = (1 ≤ l.k) × ((f : Value) (s : List ℕ) (ss : List (List ℕ)) (to : InSlot) → IsView l.root f → l.path ≡ s ∷ ss → holder_at (table_of l.root) (slot_of l.root, f) s ss ≡ Some to
    → is_holder (seen (table_of l.root) to) ≡ true → Walked (table_of l.root) (slot_of l.root, f) to s ss l.path l.k l.steps.items l.view)

abbrev pub decreases-loop-k : goal.decreases-loop-k
decreases-loop-k l = length l.segments - l.k
