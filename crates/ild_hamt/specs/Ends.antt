-- Where a key's way ends.
use Rattle.std.specs.Prelude.{◌≡◌, ℕ, zero, suc, ◌+◌, ◌-◌, ◌==◌, nat_le, Bool, true, ◌&&◌, not, List, [], length, map, is_some, slice_index_or}
use Rattle.std.specs.List.{filter}
use Rattle.std.specs.FinMap.{find}
use Rattle.ild_data.specs.Data.{Data}
use Rattle.ild_data.specs.declared.hamt_shape.HamtShape.{HamtShape}
use Rattle.ild_data.specs.TrieShape.{index, trie_levels}
use Rattle.ild_data.specs.Trie.{TrieSlot}
use Rattle.ild_data.specs.ByteOrder.{bytewise}
use Rattle.ild_bulk_walker.specs.Gives.{IsNodeOf}

-- the last of these blocks is the node of the last slots; the root is, where there is none
pub record EndsAt (p : HamtShape) (slots : List TrieSlot) (bs : List (List ℕ)) (last : List TrieSlot) : Type 0 where
  pub root : length bs ≡ 0 → slots ≡ last
  pub node : (j : ℕ) → suc j ≡ length bs → IsNodeOf p (slice_index_or bs j []) last

-- the hashes have the same index at so many levels from a depth on
abbrev pub agree : HamtShape → List ℕ → List ℕ → ℕ → ℕ → Bool
agree p a b zero depth = true
agree p a b (suc n) depth = (index p a depth == index p b depth) && agree p a b n (depth + 1)

-- of these entries, those that agree with the hash at all levels from a depth on
abbrev pub agreeing : (List ℕ → List ℕ) → HamtShape → List ℕ → ℕ → List (List ℕ × Data) → List (List ℕ × Data)
agreeing h p hash depth es = filter (λ e. agree p (h e.0) hash (trie_levels p - depth) depth) es

-- the hashes of the keys of entries
abbrev pub hashes_of : (List ℕ → List ℕ) → List (List ℕ × Data) → List (List ℕ)
hashes_of h es = map (λ e. h e.0) es

-- of these hashes, those that agree with one at all levels from a depth on
abbrev pub agreeing_hashes : HamtShape → List ℕ → ℕ → List (List ℕ) → List (List ℕ)
agreeing_hashes p hash depth hashes = filter (λ a. agree p a hash (trie_levels p - depth) depth) hashes

-- the key is none of these, and as many as a bucket takes agree with it
abbrev pub is_full : (List ℕ → List ℕ) → HamtShape → List ℕ → List ℕ → ℕ → List (List ℕ × Data) → Bool
is_full h p k hash depth es = not (is_some (find bytewise k es)) && nat_le p.bucket (length (agreeing h p hash depth es))
