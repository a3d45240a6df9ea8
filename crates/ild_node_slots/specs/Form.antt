-- The nodes of a HAMT as data (IPLD HashMap, "HashMapNode" and "Bucket"): which slots a node may have.
use Rattle.std.specs.Prelude.{◌≡◌, ℕ, ◌^◌, IsUtf8, codes, List, length, map}
use Rattle.std.specs.List.{AllByRecursion}
use Rattle.ild_data.specs.Data.{Data, list, items_of}
use Rattle.ild_data.specs.Trie.{TrieSlot, entry_data}
use Rattle.ild_data.specs.declared.hamt_shape.HamtShape.{HamtShape}
use Rattle.ild_typed.specs.Node.{IsSlot}

-- the keys are UTF-8
abbrev pub AreTexts : List (List ℕ × Data) → Type 0
AreTexts es = AllByRecursion (λ e. IsUtf8 e.0) es

abbrev pub AreSlots : HamtShape → List TrieSlot → Type 0
AreSlots p slots = AllByRecursion (IsSlot p) slots

-- the slots that a node may have: one for each index
pub record IsNode (p : HamtShape) (slots : List TrieSlot) : Type 0 where
  pub many : length slots ≡ 2 ^ p.width
  pub each : AreSlots p slots

abbrev pub bucket_data : List (List ℕ × Data) → Data
bucket_data es = list (items_of (map entry_data es))

-- the names of the two settings in a root map
abbrev pub hash_alg : List ℕ
hash_alg = codes "hashAlg"

abbrev pub bucket_size : List ℕ
bucket_size = codes "bucketSize"
