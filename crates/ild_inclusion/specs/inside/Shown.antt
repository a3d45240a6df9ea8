-- The spelling of the representation of a part.
use Rattle.std.specs.Prelude.{◌≡◌, ℕ, List, Some}
use Rattle.ild_data.specs.Data.{Data}
use Rattle.ild_data.specs.Spell.{spell}
use Rattle.ild_schema.specs.Value.{Value}
use Rattle.ild_schema.specs.declared.number.Slot.{Slot}
use Rattle.ild_schema.specs.declared.row.Row.{Row}
use Rattle.ild_typed.specs.Hamt.{alone}
use Rattle.ild_typed.specs.Represented.{represented}

pub record IsShown (rows : List Row) (s : Slot) (f : Value) (b : List ℕ) : Type 0 where
  pub tree : Data
  pub shown : represented alone rows s f ≡ Some tree
  pub spelled : b ≡ spell tree
