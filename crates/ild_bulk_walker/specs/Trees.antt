-- The HAMT that a store holds, and the entries that a walk of it gives.
use Rattle.std.specs.Prelude.{◌≡◌, ◌↔◌, ℕ, zero, suc, ◌+◌, ◌-◌, ◌<◌, true, List, length, Some}
use Rattle.ild_data.specs.ByteOrder.{in_byte_order, no_key_twice}
use Rattle.ild_data.specs.Data.{Data}
use Rattle.ild_data.specs.Spell.{spell, id_of}
use Rattle.ild_data.specs.Trie.{TrieSlot, part, at_depth, node_data, node_of, trie}
use Rattle.ild_data.specs.TrieBlocks.{nodes_beneath}
use Rattle.ild_data.specs.declared.hamt_shape.HamtShape.{HamtShape}
use Rattle.ild_data.specs.TrieShape.{trie_levels}
use Rattle.ild_edges.specs.Store.{block_at}
use Rattle.ild_hamt_trie.specs.Walk.{in_trie_order}
use Rattle.ild_node_slots.specs.Form.{IsNode}
use Rattle.ild_bulk_walker.specs.Gives.{IsNodeOf, RootGives}
use Rattle.ild_bulk_walker.specs.Reads.{NodesBeneath}

-- a node is held as a block, within the limits of blocks
pub record IsHeldNode (p : HamtShape) (held : List (List ℕ)) (node : Data) : Type 0 where
  pub slots : List TrieSlot
  pub is : node ≡ node_data slots
  pub block : IsNodeOf p (spell node) slots
  pub here : block_at held (id_of (spell node)) ≡ Some (spell node)

-- each node beneath the node of these entries, at a depth with so many levels left, is held
abbrev pub HoldsBelow : (List ℕ → List ℕ) → HamtShape → List (List ℕ) → ℕ → ℕ → List (List ℕ × Data) → Type 0
HoldsBelow h p held zero depth es = Unit {0}
HoldsBelow h p held (suc left) depth es =
    (i : ℕ) (node : Data) → p.bucket < length (part (at_depth h p depth) es i) → node_of h p left (depth + 1) (part (at_depth h p depth) es i) ≡ Some node
    → IsHeldNode p held node × HoldsBelow h p held left (depth + 1) (part (at_depth h p depth) es i)

-- the root of these slots is that of the trie of these entries, which stand in its order and all of which is held
pub record IsTrieOf (h : List ℕ → List ℕ) (p : HamtShape) (held : List (List ℕ)) (slots : List TrieSlot) (es : List (List ℕ × Data)) : Type 0 where
  pub distinct : no_key_twice es ≡ true
  pub order : es ≡ in_trie_order h p (trie_levels p) 0 (in_byte_order es)
  pub tree : trie h p es 0 ≡ Some (node_data slots)
  pub holds : HoldsBelow h p held (trie_levels p) 0 (in_byte_order es)

-- the blocks beneath a root give exactly the entries of which they are the trie
abbrev pub GivenIsTrie : Type 0
GivenIsTrie = (h : List ℕ → List ℕ) (p : HamtShape) (held : List (List ℕ)) (slots : List TrieSlot) (es : List (List ℕ × Data))
    → IsNode p slots → RootGives h p held (trie_levels p - 1) slots es ↔ IsTrieOf h p held slots es

-- beneath a root that gives entries there are as many blocks of nodes as beneath the node of their trie
abbrev pub NodesAreTheTries : Type 0
NodesAreTheTries = (h : List ℕ → List ℕ) (p : HamtShape) (held : List (List ℕ)) (slots : List TrieSlot) (es : List (List ℕ × Data)) → IsNode p slots → RootGives h p held (trie_levels p - 1) slots es
    → NodesBeneath p held slots (length (nodes_beneath h p (trie_levels p) 0 (in_byte_order es)))
