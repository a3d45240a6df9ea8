-- The slot of a map's values is one of the table, in which null stands for null alone.
use Rattle.std.proofs.Common.{◌≡◌, ℕ, List, length, Some, ap, arith}
use Rattle.ild_schema.specs.Legible.{IsLegible}
use Rattle.ild_schema.specs.Slots.{form_of}
use Rattle.ild_schema.specs.Table.{IsTable, IsWithin}
use Rattle.ild_schema.specs.declared.def.MapForm.{MapForm}
use Rattle.ild_schema.specs.declared.def.TypeDef.TheVariants as D
use Rattle.ild_schema.specs.declared.number.Slot.{Slot}
use Rattle.ild_schema.specs.declared.number.TypeNo.{TypeNo}
use Rattle.ild_schema.specs.declared.row.Row.{Row}
use Rattle.ild_typed.specs.Slots.{element_of}
use Rattle.ild_view.proofs.Placing.{value_is_safe}
use Rattle.ild_path_room.specs.ValueSlot.{IsValueSlot, value_in}

pub value_slotted : (rows : List Row) → IsTable rows → IsLegible rows → (s : Slot) (key : TypeNo) (key_at : ℕ) (value : Slot) (at : ℕ) (form : MapForm)
    → form_of rows s ≡ Some (D.Map key key_at value at form) → IsWithin (length rows) (D.Map key key_at value at form) → IsValueSlot rows (form_of rows s) (Some value)
value_slotted rows table legible s key key_at value at form known within =
    (ap element_of known, within.1 1 0 (omega arith), value_is_safe rows table legible s key key_at value at form known, ap value_in known)
