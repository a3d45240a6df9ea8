-- Blocks of values of a slot.
use Rattle.std.specs.Prelude.{ℕ, List}
use Rattle.ild_cbor.specs.Block.{IsBlockOf}
use Rattle.ild_data.specs.Data.{Data}
use Rattle.ild_data.specs.Limits.{deepest}
use Rattle.ild_schema.specs.declared.number.Slot.{Slot}
use Rattle.ild_schema.specs.declared.row.Row.{Row}
use Rattle.ild_schema.specs.Value.{Value}
use Rattle.ild_typed.specs.Fits.{Front}

-- the block is the spelling of data that have a front of the slot
pub record HasBlock (rows : List Row) (s : Slot) (b : List ℕ) : Type 0 where
  pub value : Value
  pub tree : Data
  pub block : IsBlockOf b tree
  pub front : Front rows deepest s value tree
