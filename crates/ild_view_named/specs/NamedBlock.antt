-- Root blocks that name their schema: each is the spelling of such a root's map, over data that have a front of a type.
use Rattle.std.specs.Prelude.{◌≡◌, ℕ, List, length}
use Rattle.ild_cbor.specs.Block.{IsBlockOf}
use Rattle.ild_cbor.specs.Nodes.{HasData}
use Rattle.ild_data.specs.Data.{Data}
use Rattle.ild_named.specs.Named.{named_data}
use Rattle.ild_named.specs.declared.parts.NamedParts.{NamedParts}
use Rattle.ild_schema.specs.Slots.{plainly}
use Rattle.ild_schema.specs.Value.{Value}
use Rattle.ild_schema.specs.declared.number.TypeNo.{TypeNo}
use Rattle.ild_schema.specs.declared.row.Row.{Row}
use Rattle.ild_typed.specs.Fits.{Front}

-- the block is that of a root with this name and this schema's block, over these data
pub record IsNamedBlock (b name id : List ℕ) (t : Data) : Type 0 where
  pub wide : length id ≡ 32
  pub block : IsBlockOf b (named_data name id t)

-- a root over some value's front
pub record HasNamed (rows : List Row) (ty : TypeNo) (b : List ℕ) : Type 0 where
  pub name : List ℕ
  pub schema : List ℕ
  pub tree : Data
  pub root : IsNamedBlock b name schema tree
  pub value : Value
  pub front : Front rows 95 (plainly ty) value tree

-- the parts of such a root
pub record ArePartsIn (name id : List ℕ) (t : Data) (p : NamedParts) : Type 0 where
  pub name_is : p.name.now ≡ name
  pub schema_is : p.schema.0 ≡ id
  pub stands : HasData p.value t
