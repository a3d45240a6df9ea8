-- Bytes that are the block of a node: as a fact, and as a test.
use Rattle.std.specs.Prelude.{◌≡◌, ℕ, Bool, true, ◌&&◌, is_none, List}
use Rattle.ild_data.specs.declared.hamt_shape.HamtShape.{HamtShape}
use Rattle.ild_data.specs.Trie.{TrieSlot, node_data}
use Rattle.ild_cbor.specs.Block.{IsBlockOf}
use Rattle.ild_cbor.specs.Reading.{fault_of}
use Rattle.ild_typed.specs.NodeReading.{node_fits}
use Rattle.ild_node_slots.specs.Form.{IsNode}
use Rattle.ild_node_slots.specs.Spelled.{tree_in}

-- the block is a node of this shape
pub record IsNodeBlock (p : HamtShape) (b : List ℕ) : Type 0 where
  pub slots : List TrieSlot
  pub is : IsBlockOf b (node_data slots)
  pub form : IsNode p slots

abbrev pub is_node_bytes : HamtShape → List ℕ → Bool
is_node_bytes p b = is_none (fault_of b) && node_fits p (tree_in b)

abbrev pub IsNodeBytes : HamtShape → List ℕ → Type 0
IsNodeBytes p b = is_node_bytes p b ≡ true
