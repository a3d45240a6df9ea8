-- Pieces that were checked against a slot or a type: they stand for data that have what is asked for there.
use Rattle.std.specs.Prelude.{◌≡◌, ℕ, ◌+◌, Bool, true, false, List, Option, Some}
use Rattle.ild_cbor.specs.Nodes.{HasData}
use Rattle.ild_cbor.specs.declared.node.Node.{Node}
use Rattle.ild_cbor.specs.declared.piece.Piece.{Piece}
use Rattle.ild_data.specs.Data.{Data}
use Rattle.ild_data.specs.Trie.{TrieSlot}
use Rattle.ild_data.specs.declared.hamt_shape.HamtShape.{HamtShape}
use Rattle.ild_layer_piece.specs.Pieces.{StandsFor}
use Rattle.ild_schema.specs.Slots.{form_of}
use Rattle.ild_schema.specs.declared.def.Field.{Field}
use Rattle.ild_schema.specs.declared.def.TypeDef.{TypeDef}
use Rattle.ild_schema.specs.declared.number.Slot.{Slot}
use Rattle.ild_schema.specs.declared.row.Row.{Row}
use Rattle.ild_struct.specs.Parts.{IsFieldPart}
use Rattle.ild_struct.specs.declared.part.Part.{Part}
use Rattle.ild_struct.specs.declared.part.Part.TheVariants as P
use Rattle.ild_typed.specs.Composed.{composed}
use Rattle.ild_typed.specs.Hamt.{alone}
use Rattle.ild_typed.specs.Layer.{Layer}
use Rattle.ild_typed.specs.Node.{IsRoot}
use Rattle.ild_open_held.specs.Laws.{IsFronted}
use Rattle.ild_open_held.specs.Splits.{HasFront}
use Rattle.ild_open_parts.specs.Around.{levels_around}

-- data of a slot, with a front in a room
pub record IsChecked (rows : List Row) (room : ℕ) (s : Slot) (piece : Piece) : Type 0 where
  pub tree : Data
  pub stands : StandsFor rows piece tree
  pub front : HasFront rows room (s, tree)

-- data of a type that aren't null, with a front; so much room is left for their parts
pub record IsTyped (rows : List Row) (room : ℕ) (d : TypeDef) (piece : Piece) : Type 0 where
  pub slot : Slot
  pub form : form_of rows slot ≡ Some d
  pub tree : Data
  pub stands : StandsFor rows piece tree
  pub whole : ℕ
  pub left : whole ≡ room + levels_around d
  pub front : IsFronted rows whole slot tree

-- data that are a layer of a type
pub record IsLayered (rows : List Row) (d : TypeDef) (piece : Piece) : Type 0 where
  pub tree : Data
  pub stands : StandsFor rows piece tree
  pub layer : Layer Data
  pub made : composed alone d layer ≡ Some tree

-- the root of a HAMT
pub record IsHamtRoot (p : HamtShape) (root : Node) : Type 0 where
  pub tree : Data
  pub stands : HasData root tree
  pub slots : List TrieSlot
  pub is : IsRoot p slots tree

-- what stands for a field, or that it is absent
pub record IsHandedOut (field : Field) (part : Part) : Type 0 where
  pub rows : List Row
  pub tree : Option Data
  pub is : IsFieldPart rows field tree part

-- no piece stands for the field
abbrev pub is_out : Part → Bool
is_out P.Absent = true
is_out P.Implicit = true
is_out part = false
