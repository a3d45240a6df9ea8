-- Blocks of nodes and their children (IPLD HashMap, "Element": a link to a child node).
use Rattle.std.specs.Prelude.{◌≡◌, ◌⊎◌, ℕ, List, [], ◌∷◌, ◌++◌, Some, IsSome}
use Rattle.std.specs.List.{AllByRecursion}
use Rattle.ild_data.specs.Spell.{spell, id_of}
use Rattle.ild_data.specs.Trie.{TrieSlot, empty, bucket, child, node_data}
use Rattle.ild_edges.specs.Store.{block_at}
use Rattle.ild_edges.specs.Among.{IsIn}

-- a child's block is one of these
pub record IsIdAmong (blocks : List (List ℕ)) (id : List ℕ) : Type 0 where
  pub block : List ℕ
  pub among : IsIn block blocks
  pub named : id_of block ≡ id

abbrev pub ChildIn : (List ℕ → Type 0) → TrieSlot → Type 0
ChildIn holds empty = Unit {0}
ChildIn holds (bucket es) = Unit {0}
ChildIn holds (child id) = holds id

-- the block is that of a node whose children all hold so
pub record IsNodeOver (holds : List ℕ → Type 0) (block : List ℕ) : Type 0 where
  pub slots : List TrieSlot
  pub is : block ≡ spell (node_data slots)
  pub children : AllByRecursion (ChildIn holds) slots

-- each block is that of a node whose children are among those before it
abbrev pub Follows : List (List ℕ) → List (List ℕ) → Type 0
Follows before [] = Unit {0}
Follows before (b ∷ bs) = IsNodeOver (IsIdAmong before) b × Follows (before ++ b ∷ []) bs

-- each block that is held now was held, or is that of a node whose children are all held
abbrev pub AddsLinked : List (List ℕ) → List (List ℕ) → Type 0
AddsLinked was now = (id b : List ℕ) → block_at now id ≡ Some b → (block_at was id ≡ Some b) ⊎ IsNodeOver (λ c. IsSome (block_at now c)) b
