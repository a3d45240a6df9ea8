-- The front of a piece: what it shows of a value of a slot's type by itself.
use Rattle.std.specs.Prelude.{ℕ, List}
use Rattle.ild_data.specs.Data.{Data}
use Rattle.ild_cbor.specs.Nodes.{HasData}
use Rattle.ild_cbor.specs.declared.node.Node.{Node}
use Rattle.ild_schema.specs.Value.{Value}
use Rattle.ild_schema.specs.declared.number.Slot.{Slot}
use Rattle.ild_schema.specs.declared.row.Row.{Row}
use Rattle.ild_typed.specs.Fits.{Front}
use Rattle.ild_view.specs.Body.{BodyStands}
use Rattle.ild_view.specs.declared.body.Body.{Body}

pub record BodyHasFront (rows : List Row) (s : Slot) (b : Body) : Type 0 where
  pub value : Value
  pub room : ℕ
  pub tree : Data
  pub stands : BodyStands rows b tree
  pub front : Front rows room s value tree

-- of an item
pub record NodeFront (rows : List Row) (s : Slot) (n : Node) : Type 0 where
  pub value : Value
  pub room : ℕ
  pub tree : Data
  pub stands : HasData n tree
  pub front : Front rows room s value tree
