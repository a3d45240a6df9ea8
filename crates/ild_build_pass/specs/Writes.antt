-- What writing a value leaves: its spelling behind the buffer, the blocks of its HAMTs behind those that were found, and what stands against them.
use Rattle.std.specs.Prelude.{◌≡◌, ◌⊎◌, ℕ, ◌+◌, ◌≤◌, Bool, true, List, ◌++◌, Option, Some}
use Rattle.std.specs.List.{sum_by}
use Rattle.ild_bulk.specs.Children.{Follows}
use Rattle.ild_emit.specs.Grown.{IsGrown}
use Rattle.ild_schema.specs.declared.row.Row.{Row}
use Rattle.ild_build_entries.specs.Entries.{over}
use Rattle.ild_build_entries.specs.Fine.{IsFine, SetWhere}
use Rattle.ild_build_pass.specs.Placed.{PlacedIn}
use Rattle.ild_build_pass.specs.Weights.{Weight, beneath, crowded}
use Rattle.ild_build_entries.specs.declared.nodes.Nodes.{Nodes}

-- the spelling and the blocks are those, and nothing stands against them
pub record Exact (h : List ℕ → List ℕ) (rows : List Row) (weight : Weight → ℕ) (s : List ℕ) (old new : List ℕ) (added : List (List ℕ)) (now : Nodes) : Type 0 where
  pub spelled : new ≡ old ++ s
  pub blocks : (f : List ℕ → ℕ) → sum_by f added ≡ weight (beneath h rows f)
  -- each block stands behind its children, at a place in one of the HAMTs
  pub placed : (before : List (List ℕ)) → PlacedIn h rows weight before added
  pub fine : IsFine now

-- a value of an entry was too long, and so is the spelling or a block
pub record TooLong (h : List ℕ → List ℕ) (rows : List Row) (weight : Weight → ℕ) (s : List ℕ) (now : Bool) : Type 0 where
  pub marked : now ≡ true
  pub long : 1 ≤ over s + weight (beneath h rows over)

-- Where nothing stood against the value before, its spelling and its blocks are there, or a value of an entry was too long.
pub record Writes (h : List ℕ → List ℕ) (rows : List Row) (made : Option (List ℕ)) (weight : Weight → ℕ) (old new : List ℕ) (was now : Nodes) : Type 0 where
  pub grown : IsGrown old new
  pub added : List (List ℕ)
  pub blocks : now.blocks.items ≡ was.blocks.items ++ added
  -- each block stands behind its children
  pub follows : (before : List (List ℕ)) → Follows before added
  pub exhausted : SetWhere was.exhausted (weight (crowded h)) now.exhausted
  pub stays : was.long ≡ true → now.long ≡ true
  pub exact : IsFine was → (s : List ℕ) → made ≡ Some s → Exact h rows weight s old new added now ⊎ TooLong h rows weight s now.long
