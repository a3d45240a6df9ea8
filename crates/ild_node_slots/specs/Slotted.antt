-- What the parts of a node's view stand for, whichever view they are in.
use Rattle.std.specs.Prelude.{◌≡◌, ℕ, List}
use Rattle.std.specs.List.{flat_map}
use Rattle.ild_data.specs.declared.hamt_shape.HamtShape.{HamtShape}
use Rattle.ild_data.specs.Trie.{TrieSlot, map_of, elements_of, node_data}
use Rattle.ild_cbor.specs.declared.node.Node.{Node}
use Rattle.ild_cbor.specs.declared.items.Items.{Items}
use Rattle.ild_cbor.specs.Nodes.{HasData, IsPart}
use Rattle.ild_cbor.specs.Span.{place_of}
use Rattle.ild_node_slots.specs.Form.{IsNode}
use Rattle.ild_node_slots.specs.Items.{IsAtItem}
use Rattle.ild_node_slots.specs.Places.{elements_data}

-- a node that was read at one shape, its map and its elements are those of these slots, of a HAMT of this shape
pub record IsSlotted (p seen : HamtShape) (node body : Node) (ones : List ℕ) (left : Items) (slots : List TrieSlot) : Type 0 where
  pub shape : seen ≡ p
  pub stands : HasData node (node_data slots)
  pub map : ones ≡ map_of slots
  pub part : IsPart node body (place_of (node_data slots) 1) (elements_data slots)
  pub elements : IsAtItem body (flat_map elements_of slots) 0 left
  pub form : IsNode p slots

-- they are those of a node of the shape at which it was read
pub record SomeSlots (p : HamtShape) (node body : Node) (ones : List ℕ) (left : Items) : Type 0 where
  pub slots : List TrieSlot
  pub has : IsSlotted p p node body ones left slots
