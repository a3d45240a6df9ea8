-- What is still to be done of a HAMT, from the place that a walk has reached.
use Rattle.std.specs.Prelude.{◌≡◌, ℕ, suc, ◌+◌, ◌-◌, ◌<◌, ◌==◌, ◌&&◌, Bool, true, List, [], ◌∷◌, ◌++◌, length, map}
use Rattle.std.specs.List.{AllByRecursion}
use Rattle.ild_data.specs.Data.{Data}
use Rattle.ild_data.specs.Trie.{TrieSlot, empty, bucket, child}
use Rattle.ild_data.specs.declared.hamt_shape.HamtShape.{HamtShape}
use Rattle.ild_data.specs.TrieShape.{index, trie_levels}
use Rattle.ild_bulk_walker.specs.Gives.{TreeGives}

-- give an entry that stands at an index, enter the child at an index, or leave a node that was entered when so many were given
pub data Todo : Type 0 where
  give : List ℕ → Data → ℕ → Todo
  enter : List ℕ → ℕ → Todo
  leave : ℕ → Todo

abbrev pub slot_todo : ℕ → TrieSlot → List Todo
slot_todo i empty = []
slot_todo i (bucket es) = map (λ e. give e.0 e.1 i) es
slot_todo i (child id) = enter id i ∷ []

-- all slots of a node, from an index on
abbrev pub node_todo : ℕ → List TrieSlot → List Todo
node_todo i [] = []
node_todo i (s ∷ slots) = slot_todo i s ++ node_todo (i + 1) slots

-- the hash has these indices from a depth on
abbrev pub agrees : HamtShape → List ℕ → ℕ → List ℕ → Bool
agrees p hash depth [] = true
agrees p hash depth (i ∷ path) = (index p hash depth == i) && agrees p hash (depth + 1) path

-- the key belongs to an index of the node at the end of a path of indices
abbrev pub fits : (List ℕ → List ℕ) → HamtShape → List ℕ → ℕ → List ℕ → Bool
fits h p path i k = agrees p (h k) 0 path && (index p (h k) (length path) == i)

abbrev pub AllFit : (List ℕ → List ℕ) → HamtShape → List ℕ → ℕ → List (List ℕ × Data) → Type 0
AllFit h p path i es = AllByRecursion (λ e. fits h p path i e.0 ≡ true) es

-- these entries are what is still to be given, where so many were given: each fits its place, and each child gives more than a bucket takes
abbrev pub StillGives : (List ℕ → List ℕ) → HamtShape → List (List ℕ) → List Todo → List ℕ → ℕ → List (List ℕ × Data) → Type 0
StillGives h p held [] path given es = es ≡ []
StillGives h p held (give k v i ∷ todo) path given es =
    (rest : List (List ℕ × Data)) × (es ≡ (k, v) ∷ rest) × (fits h p path i k ≡ true) × StillGives h p held todo path (given + 1) rest
StillGives h p held (enter id i ∷ todo) path given es =
    (here : List (List ℕ × Data)) × (more : List (List ℕ × Data)) × (es ≡ here ++ more) × AllFit h p path i here
    × TreeGives h p held (trie_levels p - suc (length path)) (suc (length path)) id here × StillGives h p held todo path (given + length here) more
StillGives h p held (leave before ∷ todo) path given es =
    (above : List ℕ) × (i : ℕ) × (path ≡ above ++ i ∷ []) × (before + p.bucket < given) × StillGives h p held todo above given es
