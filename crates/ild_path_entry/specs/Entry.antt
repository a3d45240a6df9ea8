-- The value of an entry of a HAMT, in a block of its own: data that have a front of a slot.
use Rattle.std.specs.Prelude.{◌≡◌, ℕ, List, Result, Ok, Err}
use Rattle.ild_data.specs.Data.{Data}
use Rattle.ild_schema.specs.declared.number.Slot.{Slot}
use Rattle.ild_schema.specs.declared.number.TypeNo.{TypeNo}
use Rattle.ild_schema.specs.declared.row.Row.{Row}
use Rattle.ild_view_walk.specs.Checks.{IsRefusal}
use Rattle.ild_path_entry.specs.Fronts.{HasFrontOf}
use Rattle.ild_path_entry.specs.declared.entry.Entry.{Entry}
use Rattle.ild_path_entry.specs.declared.fault.EntryErr.{EntryErr}
use Rattle.ild_path_entry.specs.declared.fault.EntryErr.TheVariants as E

abbrev pub table_in : Entry → List Row
table_in e = e.acc.now

abbrev pub slot_in : Entry → Slot
slot_in e = e.slot

abbrev pub room_in : Entry → ℕ
room_in e = e.room

abbrev pub data_in : Entry → Data
data_in e = e.item

abbrev pub Faults : List Row → Slot → ℕ → Data → EntryErr → Type 0
Faults rows s room t (E.Shape why) = (ty : TypeNo) × IsRefusal rows room s t ty why
Faults rows s room t E.Memory = Unit {0}

abbrev pub Checks : List Row → Slot → ℕ → Data → Result (Unit {0}) EntryErr → Type 0
Checks rows s room t (Ok u) = HasFrontOf rows s room t
Checks rows s room t (Err e) = Faults rows s room t e

-- these data, with a front of the slot in the room
pub record IsEntry (rows : List Row) (s : Slot) (room : ℕ) (t : Data) (e : Entry) : Type 0 where
  pub table : table_in e ≡ rows
  pub slot : slot_in e ≡ s
  pub room_is : room_in e ≡ room
  pub tree : data_in e ≡ t
  pub front : HasFrontOf rows s room t

abbrev pub Enters : List Row → Slot → ℕ → Data → Result Entry EntryErr → Type 0
Enters rows s room t (Ok e) = IsEntry rows s room t e
Enters rows s room t (Err e) = Faults rows s room t e
