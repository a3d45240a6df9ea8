-- The slot that a node has in the node above (IPLD HashMap, "Canonical form"): a node of few entries is a bucket there.
use Rattle.std.specs.Prelude.{ℕ, nat_le, cond, List, [], ◌∷◌, length}
use Rattle.std.specs.List.{flat_map, list_any}
use Rattle.ild_data.specs.ByteOrder.{in_byte_order}
use Rattle.ild_data.specs.Data.{Data}
use Rattle.ild_data.specs.Trie.{TrieSlot, empty, bucket, is_child, bucket_entries, link_to, node_data}

-- the slot of these entries, where the node one level deeper has the link
abbrev pub sized : ℕ → TrieSlot → List (List ℕ × Data) → TrieSlot
sized most deeper [] = empty
sized most deeper (e ∷ es) = cond (nat_le (length (e ∷ es)) most) (bucket (e ∷ es)) deeper

-- the slot of a node of these slots: collapsed, where it holds few entries
abbrev pub folded : ℕ → List TrieSlot → TrieSlot
folded most slots =
    cond (list_any is_child slots) (link_to (node_data slots)) (sized most (link_to (node_data slots)) (in_byte_order (flat_map bucket_entries slots)))
