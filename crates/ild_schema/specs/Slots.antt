-- The type behind a number, copies followed, and the slots of values that are never null.
use Rattle.std.specs.Prelude.{false, List, Option}
use Rattle.ild_schema.specs.declared.number.Slot.{Slot}
use Rattle.ild_schema.specs.declared.number.TypeNo.{TypeNo}
use Rattle.ild_schema.specs.declared.def.TypeDef.{TypeDef}
use Rattle.ild_schema.specs.declared.row.Row.{Row}
use Rattle.ild_schema.specs.Kinds.{meant}

-- what the table says of a slot's type, copies followed
abbrev pub form_of : List Row → Slot → Option TypeDef
form_of rows s = meant rows s.ty.0

-- a value of the type, never null
abbrev pub plainly : TypeNo → Slot
plainly n = record { ty = n; nullable = false }
