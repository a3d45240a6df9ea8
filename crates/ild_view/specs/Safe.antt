-- Slots in which null, where it may stand, stands for null alone.
use Rattle.std.specs.Prelude.{◌&&◌, Bool, not, List}
use Rattle.ild_schema.specs.DataKinds.{slot_has}
use Rattle.ild_schema.specs.declared.def.KindWord.TheVariants as K
use Rattle.ild_schema.specs.declared.number.Slot.{Slot}
use Rattle.ild_schema.specs.declared.row.Row.{Row}

abbrev pub is_safe : List Row → Slot → Bool
is_safe rows s = not (s.nullable && slot_has rows s K.Null)
