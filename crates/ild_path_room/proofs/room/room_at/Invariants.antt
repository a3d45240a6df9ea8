use Rattle.std.proofs.Common.{◌≡◌, ℕ, List, ◌∷◌, Some, length}
use Rattle.ild_path_room.specs.Room.{room_left}
use Rattle.ild_schema.specs.Value.{Value}
use Rattle.ild_typed.specs.At.{last_holder}
use Rattle.ild_typed.specs.Holder.{Holder}
use Rattle.ild_view.specs.View.{IsView, slot_of, table_of}
use Rattle.ild_path_room.proofs.Telling.{OnWay}
use Rattle.ild_path_room.proofs.room.room_at.Given as goal

abbrev pub invariant-loop-segment : goal.invariant-loop-segment
invariant-loop-segment l = (f : Value) (s : List ℕ) (ss : List (List ℕ)) (h : Holder × List ℕ) → IsView l.root f → l.segments ≡ s ∷ ss → last_holder (table_of l.root) (slot_of l.root, f) s ss ≡ Some h
    → OnWay (table_of l.root) h (room_left (table_of l.root) l.limit (slot_of l.root, f) l.segments) l.left l.view l.room

abbrev pub decreases-loop-segment : goal.decreases-loop-segment
decreases-loop-segment l = length l.left
