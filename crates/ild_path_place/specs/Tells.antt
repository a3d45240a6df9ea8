-- What a place tells without work.
use Rattle.std.specs.Prelude.{◌≡◌, ℕ, Bool, List, Option}
use Rattle.ild_path_place.specs.declared.place.Place.{Place}
use Rattle.ild_schema.specs.declared.number.Slot.{Slot}
use Rattle.ild_schema.specs.declared.number.TypeNo.{TypeNo}
use Rattle.ild_schema.specs.declared.row.Row.{Row}
use Rattle.ild_schema.specs.Slots.{plainly}
use Rattle.ild_view.specs.View.{slot_of, table_of}
use Rattle.ild_view.specs.declared.view.View.{View}

abbrev pub slot_in : Place → Slot
slot_in place = place.slot

abbrev pub fits_in : Place → Bool
fits_in place = place.key_fits

abbrev pub room_in : Place → Option ℕ
room_in place = place.room

abbrev pub hole_in : Place → Bool
hole_in place = place.hole

abbrev pub root_at : Place → View
root_at place = place.root

abbrev pub table_at : Place → List Row
table_at place = table_of (root_at place)

abbrev pub slot_at : Place → Slot
slot_at place = slot_of (root_at place)

abbrev pub type_at : Place → TypeNo
type_at place = (slot_at place).ty

-- in a value of this type, under this schema
pub record IsPlaceOf (rows : List Row) (ty : TypeNo) (place : Place) : Type 0 where
  pub table : table_at place ≡ rows
  pub slot : slot_of (root_at place) ≡ plainly ty
