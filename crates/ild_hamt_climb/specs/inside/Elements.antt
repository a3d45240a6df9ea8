-- The elements of a node's used slots (IPLD HashMap, "HashMapNode"): where one stands in the node's tree, and what is to take its place.
use Rattle.std.specs.Prelude.{◌≡◌, ℕ, true, List, [], ◌∷◌, Some, slice_index_or}
use Rattle.ild_data.specs.declared.hamt_shape.HamtShape.{HamtShape}
use Rattle.ild_data.specs.Data.{Data}
use Rattle.ild_data.specs.Spell.{spell}
use Rattle.ild_data.specs.Trie.{TrieSlot, empty, is_used, elements_of, node_data}
use Rattle.ild_cbor.specs.Span.{item_of}
use Rattle.ild_cbor.specs.declared.node.Node.{Node}
use Rattle.ild_node.specs.Written.{IsSound}
use Rattle.ild_node_slots.specs.Places.{elements_data, elements_before}
use Rattle.ild_splice.specs.Splices.{IsAt}
use Rattle.ild_splice_changes.specs.TreeChange.{nth}

-- the item is the element of a used slot, at its place in the tree of the slots' node
pub record IsElementAt (slots : List TrieSlot) (i : ℕ) (n : Node) : Type 0 where
  pub used : is_used (slice_index_or slots i empty) ≡ true
  pub part : Data
  pub is : item_of (elements_data slots) (elements_before slots i) ≡ Some part
  pub at : IsAt n (node_data slots) (nth 1 ∷ nth (elements_before slots i) ∷ []) part

-- the bytes spell the element of a slot that a node may have
pub record SpellsElement (p : HamtShape) (s : TrieSlot) (b : List ℕ) : Type 0 where
  pub tree : Data
  pub is : elements_of s ≡ tree ∷ []
  pub spelled : b ≡ spell tree
  pub sound : IsSound p s
