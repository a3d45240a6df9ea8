-- The laws of rooms along a path, for values that fit in a room under the table of an accepted schema.
use Rattle.std.specs.Prelude.{◌≡◌, ◌↔◌, ℕ, List, ◌∷◌, Bool, Option, Some, None}
use Rattle.ild_schema.specs.declared.number.Slot.{Slot}
use Rattle.ild_schema.specs.declared.row.Row.{Row}
use Rattle.ild_schema.specs.Value.{Value}
use Rattle.ild_typed.specs.At.{InSlot, last_holder, changed_in}
use Rattle.ild_typed.specs.Fits.{Fits}
use Rattle.ild_typed.specs.Holder.{Holder}
use Rattle.ild_typed.specs.OfType.{OfType, TestsKeys}
use Rattle.ild_typed.specs.Schema.{IsSchema}
use Rattle.ild_path_edits.specs.Table.{MayStand, refusal_to_delete, delete_part}
use Rattle.ild_path_room.specs.Room.{Coming, slot_for, brought, room_left, KeyFits}

-- A part of its type, put at the last segment of a path, and the key at which it stands fit in what the room leaves there exactly
-- where the changed value fits in the room.
abbrev pub BroughtFits : Type 0
BroughtFits = (rows : List Row) (is_key : ℕ → List ℕ → Bool) → IsSchema rows → TestsKeys rows is_key
    → (how : Coming) (room : ℕ) (p : InSlot) (s : List ℕ) (ss : List (List ℕ)) (l : Holder × List ℕ) (slot : Slot) (w : Value)
    → Fits rows room p.0 p.1 → last_holder rows p s ss ≡ Some l → slot_for how l.0 l.1 ≡ Some slot → MayStand is_key l.0 l.1 → OfType rows slot w
    → Fits rows room p.0 (changed_in rows (brought how w) p s ss) ↔ (KeyFits rows (room_left rows room p (s ∷ ss)) l.0 l.1 × Fits rows (room_left rows room p (s ∷ ss)) slot w)

-- a value in which a part is deleted fits where it did before
abbrev pub DeletedFits : Type 0
DeletedFits = (rows : List Row) (is_key : ℕ → List ℕ → Bool) → IsSchema rows → TestsKeys rows is_key
    → (room : ℕ) (p : InSlot) (s : List ℕ) (ss : List (List ℕ)) (l : Holder × List ℕ)
    → Fits rows room p.0 p.1 → last_holder rows p s ss ≡ Some l → refusal_to_delete l.0 l.1 ≡ None
    → Fits rows room p.0 (changed_in rows delete_part p s ss)
