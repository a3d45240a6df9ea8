-- Laws of nodes.
use Rattle.std.specs.Prelude.{◌≡◌, ℕ, ◌≤◌, List, length}
use Rattle.ild_data.specs.Limits.{longest_block}
use Rattle.ild_data.specs.declared.hamt_shape.HamtShape.{HamtShape}
use Rattle.ild_data.specs.Trie.{TrieSlot, node_data}
use Rattle.ild_cbor.specs.Block.{IsBlockOf}
use Rattle.ild_node_slots.specs.Form.{IsNode}
use Rattle.ild_node.specs.Written.{IsNodeBlock}

-- the data of a node tell its slots
abbrev pub OneNode : Type 0
OneNode = (p : HamtShape) (slots others : List TrieSlot) → IsNode p slots → IsNode p others → node_data slots ≡ node_data others → slots ≡ others

-- a node that is written is a block that a reader of blocks accepts, where it isn't too long
abbrev pub WrittenAreRead : Type 0
WrittenAreRead = (p : HamtShape) (slots : List TrieSlot) (b : List ℕ) → IsNodeBlock p slots b → length b ≤ longest_block → IsBlockOf b (node_data slots)
