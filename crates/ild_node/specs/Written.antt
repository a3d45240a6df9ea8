-- The block of a node that is written.
use Rattle.std.specs.Prelude.{◌≡◌, ℕ, ◌*◌, ◌/◌, Bool, List, length, map, take, drop}
use Rattle.std.specs.List.{AllByRecursion, range_with_len}
use Rattle.ild_data.specs.Data.{Data, items_of}
use Rattle.ild_data.specs.Limits.{deepest}
use Rattle.ild_data.specs.Spell.{spell, spell_items}
use Rattle.ild_data.specs.Trie.{TrieSlot, bucket_entries, byte_of, node_data}
use Rattle.ild_data.specs.declared.hamt_shape.HamtShape.{HamtShape}
use Rattle.ild_typed.specs.Nested.{TreeIn}
use Rattle.ild_typed.specs.Node.{IsSlot}
use Rattle.ild_node_slots.specs.Form.{IsNode}
use Rattle.ild_node.specs.Rows.{deepest_value}

-- the bytes spell the node of these slots, a tree that nests no deeper than a block may: with the limit on its length, it is
-- a block that is read again
pub record IsNodeBlock (p : HamtShape) (slots : List TrieSlot) (b : List ℕ) : Type 0 where
  pub spelled : b ≡ spell (node_data slots)
  pub form : IsNode p slots
  pub tree : TreeIn deepest (node_data slots)

-- a slot that a node may have, and whose values leave room for the node
pub record IsSound (p : HamtShape) (s : TrieSlot) : Type 0 where
  pub form : IsSlot p s
  pub values : AllByRecursion (λ e. TreeIn deepest_value e.1) (bucket_entries s)

-- the bytes of bits, eight in each, the first the least significant
abbrev pub bytes_of_bits : List Bool → List ℕ
bytes_of_bits bits = map (λ j. byte_of (take 8 (drop (8 * j) bits))) (range_with_len 0 (length bits / 8))

abbrev pub spelled : List Data → List ℕ
spelled ds = spell_items (items_of ds)
