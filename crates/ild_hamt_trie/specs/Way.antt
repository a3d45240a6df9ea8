-- The way of a key in a HAMT: the entries, the blocks and the nodes that are met from the root down.
use Rattle.std.specs.Prelude.{◌≡◌, ◌<◌, ◌≤◌, ℕ, suc, zero, ◌+◌, nat_le, Bool, List, [], ◌∷◌, length, Some}
use Rattle.std.specs.List.{list_all}
use Rattle.ild_data.specs.Data.{Data}
use Rattle.ild_data.specs.Trie.{TrieSlot, part, node_of, at_depth, slots_at}
use Rattle.ild_data.specs.TrieBlocks.{node_and_beneath}
use Rattle.ild_data.specs.declared.hamt_shape.HamtShape.{HamtShape}
use Rattle.ild_data.specs.TrieShape.{index}

-- the entries that agree with the key at so many levels from a depth on
abbrev pub along : (List ℕ → List ℕ) → HamtShape → List ℕ → ℕ → ℕ → List (List ℕ × Data) → List (List ℕ × Data)
along h p k zero depth es = es
along h p k (suc left) depth es = along h p k left (depth + 1) (part (λ q. index p (h q) depth) es (index p (h k) depth))

-- of the blocks beneath a node, those on a key's way, from the top down
unfoldable pub way : (List ℕ → List ℕ) → HamtShape → List ℕ → ℕ → ℕ → List (List ℕ × Data) → List (List ℕ)
way h p k zero depth es = []
way h p k (suc left) depth es = node_and_beneath p.bucket (node_of h p left (depth + 1)) (way h p k left (depth + 1)) (part (at_depth h p depth) es (at_depth h p depth k))

-- of each key, at most a bucket's entries agree with it at so many levels
abbrev pub few_agree : (List ℕ → List ℕ) → HamtShape → ℕ → ℕ → List (List ℕ × Data) → Bool
few_agree h p left depth es = list_all (λ e. nat_le (length (along h p e.0 left depth es)) p.bucket) es

-- the slots of the nodes beneath a node on a key's way: each is reached through a link, for it has more entries than a bucket
-- takes, and the last leads to no other, for a bucket takes what is left
abbrev pub IsBeneath : (List ℕ → List ℕ) → HamtShape → List ℕ → ℕ → ℕ → List (List ℕ × Data) → List (List TrieSlot) → Type 0
IsBeneath h p k left depth es [] = length es ≤ p.bucket
IsBeneath h p k zero depth es (slots ∷ more) = ⊥
IsBeneath h p k (suc left) depth es (slots ∷ more) =
    (slots_at h p left depth es ≡ Some slots) × (p.bucket < length es) × IsBeneath h p k left (depth + 1) (part (at_depth h p depth) es (at_depth h p depth k)) more

-- and from a root down, which may have few entries
abbrev pub IsOnWay : (List ℕ → List ℕ) → HamtShape → List ℕ → ℕ → ℕ → List (List ℕ × Data) → List (List TrieSlot) → Type 0
IsOnWay h p k left depth es [] = left ≡ 0
IsOnWay h p k zero depth es (slots ∷ more) = ⊥
IsOnWay h p k (suc left) depth es (slots ∷ more) =
    (slots_at h p left depth es ≡ Some slots) × IsBeneath h p k left (depth + 1) (part (at_depth h p depth) es (at_depth h p depth k)) more
