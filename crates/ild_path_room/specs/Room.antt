-- How many levels a part may nest at the end of a path, so that the whole value stays within its limit: what the limit leaves, and
-- whether a key may stand there by itself.
use Rattle.std.specs.Prelude.{◌≡◌, ◌↔◌, ℕ, List, ◌∷◌, Bool, Option, Some, None, ◌-◌, Result, IfOk}
use Rattle.ild_data.specs.Data as T
use Rattle.ild_schema.specs.declared.def.TypeDef.{TypeDef}
use Rattle.ild_schema.specs.declared.def.TypeDef.TheVariants as D
use Rattle.ild_schema.specs.declared.number.Slot.{Slot}
use Rattle.ild_schema.specs.declared.row.Row.{Row}
use Rattle.ild_schema.specs.Prelude.{number}
use Rattle.ild_schema.specs.Slots.{plainly, form_of}
use Rattle.ild_schema.specs.Value.{Value}
use Rattle.ild_typed.specs.At.{InSlot, seen, last_holder, changed_in}
use Rattle.ild_typed.specs.Fits.{Fits}
use Rattle.ild_typed.specs.Holder.{Holder, entries}
use Rattle.ild_typed.specs.Layers.{RepresentsSome}
use Rattle.ild_typed.specs.OfType.{OfType, TestsKeys}
use Rattle.ild_typed.specs.Segment.{set_part}
use Rattle.ild_path_edits.specs.Along.{taken}
pub use Rattle.ild_path_edits.specs.Along.{room_at as room_left}
use Rattle.ild_path_edits.specs.Table.{MayStand, slot_to_set, slot_to_insert, insert_part}
use Rattle.std.specs.declared.alloc.AllocError.{AllocError}
use Rattle.ild_view.specs.View.{IsView, slot_of, table_of}
use Rattle.ild_view.specs.declared.view.View.{View}

-- how a part comes to its place
pub data Coming : Type 0 where
  by_set : Coming
  by_insert : Coming

abbrev pub slot_for : Coming → Holder → List ℕ → Option Slot
slot_for by_set h s = slot_to_set h s
slot_for by_insert h s = slot_to_insert h s

abbrev pub brought : Coming → Value → Holder → List ℕ → Holder
brought by_set w h s = set_part h s w
brought by_insert w h s = insert_part h s w

-- a key nests no deeper than the room, as the text of a value of the key type
abbrev pub KeyFits : List Row → ℕ → Holder → List ℕ → Type 0
KeyFits rows room (entries key slot paired ps) s = RepresentsSome (Fits rows room) rows (plainly (number key)) (T.text s)
KeyFits rows room h s = Unit {0}

-- the same, by the form of the holder's type
abbrev pub FormKeyFits : List Row → ℕ → TypeDef → List ℕ → Type 0
FormKeyFits rows room (D.Map key key_at slot at form) s = RepresentsSome (Fits rows room) rows (plainly key) (T.text s)
FormKeyFits rows room d s = Unit {0}

-- a part may come to this place
abbrev pub HasPlace : Holder → List ℕ → Type 0
HasPlace h s = (how : Coming) × (slot : Slot) × (slot_for how h s ≡ Some slot)

-- What is answered of a place: the room that is left there, where the key fits in it.
abbrev pub IsRoom : List Row → ℕ → Holder → List ℕ → Option ℕ → Type 0
IsRoom rows room h s None = KeyFits rows room h s → ⊥
IsRoom rows room h s (Some n) = (n ≡ room) × KeyFits rows room h s

-- a part fits in the room that was answered
abbrev pub FitsIn : List Row → Slot → Value → Option ℕ → Type 0
FitsIn rows slot w None = ⊥
FitsIn rows slot w (Some n) = Fits rows n slot w

-- What is answered tells of each part that comes to the end of a path whether the changed value stays within its limit.
abbrev pub TellsRoom : List Row → ℕ → InSlot → List (List ℕ) → Option ℕ → Type 0
TellsRoom rows limit p path o =
    (is_key : ℕ → List ℕ → Bool) → TestsKeys rows is_key → (how : Coming) (s : List ℕ) (ss : List (List ℕ)) (l : Holder × List ℕ) (slot : Slot) (w : Value)
    → path ≡ s ∷ ss → last_holder rows p s ss ≡ Some l → slot_for how l.0 l.1 ≡ Some slot → MayStand is_key l.0 l.1 → OfType rows slot w
    → Fits rows limit p.0 (changed_in rows (brought how w) p s ss) ↔ FitsIn rows slot w o

-- ---- in a view

-- what is answered is the room that the last holder, which is the view's item, leaves to a part at a segment
abbrev pub LeavesIn : View → List ℕ → ℕ → Result (Option ℕ) AllocError → Type 0
LeavesIn v s room result =
    (f : Value) → IsView v f → HasPlace (seen (table_of v) (slot_of v, f)) s
    → IfOk result (IsRoom (table_of v) (room - taken (form_of (table_of v) (slot_of v))) (seen (table_of v) (slot_of v, f)) s)

-- it is what a limit leaves at the end of a path from the view's item, where there is a place for a part
abbrev pub LeavesAt : View → List (List ℕ) → ℕ → Result (Option ℕ) AllocError → Type 0
LeavesAt root path limit result =
    (f : Value) (s : List ℕ) (ss : List (List ℕ)) (l : Holder × List ℕ) → IsView root f → path ≡ s ∷ ss → last_holder (table_of root) (slot_of root, f) s ss ≡ Some l → HasPlace l.0 l.1
    → IfOk result (IsRoom (table_of root) (room_left (table_of root) limit (slot_of root, f) path) l.0 l.1)
