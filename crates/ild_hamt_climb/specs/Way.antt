-- The way of a key's hash through the blocks of nodes (IPLD HashMap, "HashMapNode").
use Rattle.std.specs.Prelude.{◌≡◌, ℕ, suc, ◌+◌, List, [], ◌∷◌, Option, Some, None, slice_index_or}
use Rattle.ild_data.specs.Data.{Data}
use Rattle.ild_data.specs.Spell.{id_of}
use Rattle.ild_data.specs.declared.hamt_shape.HamtShape.{HamtShape}
use Rattle.ild_data.specs.TrieShape.{index, trie_levels}
use Rattle.ild_data.specs.Trie.{TrieSlot, empty, bucket, child, slots_at}
use Rattle.ild_data.specs.ByteOrder.{IsInOrder}
use Rattle.ild_bulk_walker.specs.Gives.{IsNodeOf}

-- the slot for a hash, in a node at a depth
abbrev pub slot_for : HamtShape → List ℕ → ℕ → List TrieSlot → TrieSlot
slot_for p hash depth slots = slice_index_or slots (index p hash depth) empty

abbrev pub child_id : TrieSlot → Option (List ℕ)
child_id empty = None
child_id (bucket es) = None
child_id (child id) = Some id

-- along the hash, from a node of these slots at a depth, through these blocks, to a node of the last slots
abbrev pub Leads : HamtShape → List ℕ → ℕ → List TrieSlot → List (List ℕ) → List TrieSlot → Type 0
Leads p hash depth slots [] last = slots ≡ last
Leads p hash depth slots (b ∷ bs) last =
    (next : List TrieSlot) × (slot_for p hash depth slots ≡ child (id_of b)) × IsNodeOf p b next × Leads p hash (depth + 1) next bs last

-- the root node of these entries, which are in order, has these slots
pub record IsRootOf (h : List ℕ → List ℕ) (p : HamtShape) (es : List (List ℕ × Data)) (slots : List TrieSlot) : Type 0 where
  pub order : IsInOrder es
  pub left : ℕ
  pub all : trie_levels p ≡ suc left
  pub node : slots_at h p left 0 es ≡ Some slots
