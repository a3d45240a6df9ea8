-- The parts of a HAMT as the block of its root shows them: the keys and values of its buckets, with the way to each.
use Rattle.std.specs.Prelude.{ℕ, ◌+◌, codes, List, [], ◌∷◌, ◌++◌}
use Rattle.ild_data.specs.Data.{Data}
use Rattle.ild_schema.specs.declared.number.Slot.{Slot}
use Rattle.ild_schema.specs.declared.number.TypeNo.{TypeNo}
use Rattle.ild_data.specs.Trie as Trie
use Rattle.ild_typed.specs.Spots.{Step, Spot, value_spot, key_spot, item, under}

-- ---- the entries in the block of a HAMT's root: so many elements of the node stand before

abbrev pub in_node : ℕ → ℕ → ℕ → List Step
in_node element entry part = under (codes "hamt") ∷ item 1 ∷ item element ∷ item entry ∷ item part ∷ []

abbrev pub bucket_spots : TypeNo → Slot → ℕ → ℕ → List (List ℕ × Data) → List Spot
bucket_spots n s element i [] = []
bucket_spots n s element i (e ∷ es) = key_spot n e.0 (in_node element i 0) ∷ value_spot s e.1 (in_node element i 1) ∷ bucket_spots n s element (i + 1) es

abbrev pub root_spots : TypeNo → Slot → ℕ → List Trie.TrieSlot → List Spot
root_spots n s element [] = []
root_spots n s element (Trie.empty ∷ slots) = root_spots n s element slots
root_spots n s element (Trie.bucket es ∷ slots) = bucket_spots n s element 0 es ++ root_spots n s (element + 1) slots
root_spots n s element (Trie.child id ∷ slots) = root_spots n s (element + 1) slots
