-- The room that is left to a part at the end of a path.
use Rattle.std.specs.Prelude.{◌≡◌, ℕ, ◌-◌, List, [], ◌∷◌, Option, Some, None}
use Rattle.ild_path_edits.specs.Along.{taken}
use Rattle.ild_path_room.specs.Room.{FormKeyFits, TellsRoom}
use Rattle.ild_schema.specs.declared.def.TypeDef.{TypeDef}
use Rattle.ild_schema.specs.declared.number.Slot.{Slot}
use Rattle.ild_schema.specs.declared.row.Row.{Row}
use Rattle.ild_schema.specs.Slots.{form_of}
use Rattle.ild_typed.specs.At.{InSlot}

-- at a segment of a holder of this form, which has this room: what the holder leaves, where the key fits in it
abbrev pub FormRoom : List Row → TypeDef → ℕ → List ℕ → Option ℕ → Type 0
FormRoom rows d room s None = FormKeyFits rows (room - taken (Some d)) d s → ⊥
FormRoom rows d room s (Some n) = (n ≡ room - taken (Some d)) × FormKeyFits rows n d s

pub record HasRoom (rows : List Row) (slot : Slot) (room : ℕ) (s : List ℕ) (o : Option ℕ) : Type 0 where
  pub form : TypeDef
  pub form_is : form_of rows slot ≡ Some form
  pub is : FormRoom rows form room s o

-- in a value that may nest 96 levels
abbrev pub RoomIs : List Row → InSlot → List (List ℕ) → Option ℕ → Type 0
RoomIs rows p [] o = o ≡ Some 96
RoomIs rows p (s ∷ ss) o = TellsRoom rows 96 p (s ∷ ss) o
