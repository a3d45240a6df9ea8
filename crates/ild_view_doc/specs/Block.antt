-- Root blocks of a type: each is the spelling of a tree that has a front of the type.
use Rattle.std.specs.Prelude.{ℕ, List}
use Rattle.ild_cbor.specs.Block.{IsBlockOf}
use Rattle.ild_data.specs.Data.{Data}
use Rattle.ild_schema.specs.Slots.{plainly}
use Rattle.ild_schema.specs.Value.{Value}
use Rattle.ild_schema.specs.declared.number.TypeNo.{TypeNo}
use Rattle.ild_schema.specs.declared.row.Row.{Row}
use Rattle.ild_typed.specs.Fits.{Front}

pub record IsRootBlock (rows : List Row) (ty : TypeNo) (b : List ℕ) (f : Value) : Type 0 where
  pub tree : Data
  pub block : IsBlockOf b tree
  pub front : Front rows 96 (plainly ty) f tree

-- of some front
pub record HasRoot (rows : List Row) (ty : TypeNo) (b : List ℕ) : Type 0 where
  pub value : Value
  pub root : IsRootBlock rows ty b value
