-- The slot of a map's values (IPLD Schemas, "Map").
use Rattle.std.specs.Prelude.{◌≡◌, ◌<◌, true, List, length, Option, Some, None}
use Rattle.ild_schema.specs.declared.def.TypeDef.{TypeDef}
use Rattle.ild_schema.specs.declared.def.TypeDef.TheVariants as D
use Rattle.ild_schema.specs.declared.number.Slot.{Slot}
use Rattle.ild_schema.specs.declared.row.Row.{Row}
use Rattle.ild_typed.specs.Slots.{element_of}
use Rattle.ild_view.specs.Safe.{is_safe}

-- no other type says what the values of a map are
abbrev pub value_in : Option TypeDef → Option Slot
value_in (Some (D.Map key key_at value at form)) = Some value
value_in d = None

-- the slot of the values, with null and the table as views ask it, exactly where the type is a map
abbrev pub IsValueSlot : List Row → Option TypeDef → Option Slot → Type 0
IsValueSlot rows d (Some slot) = (element_of d ≡ Some slot) × (slot.ty.0 < length rows) × (is_safe rows slot ≡ true) × (value_in d ≡ Some slot)
IsValueSlot rows d None = value_in d ≡ None
