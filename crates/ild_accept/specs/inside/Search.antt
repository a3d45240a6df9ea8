-- Searches for types that are represented as themselves.
use Rattle.std.specs.Prelude.{◌≡◌, ◌⊎◌, ℕ, suc, ◌+◌, ◌<◌, ◌≤◌, ◌==◌, Bool, true, false, List, length, slice_index_or, sum_by, Contains}
use Rattle.std.specs.List.{list_any}
use Rattle.ild_schema.specs.declared.row.Row.{Row}
use Rattle.ild_schema.specs.Cycles.{steps_at, Reaches}

-- whether a type is marked. What is past the table isn't
abbrev pub is_marked : List Bool → ℕ → Bool
is_marked marks n = slice_index_or marks n false

abbrev pub Has : List Bool → ℕ → Type 0
Has marks n = is_marked marks n ≡ true

-- a type is left to be looked at
abbrev pub Waits : List ℕ → ℕ → Type 0
Waits stack n = list_any (λ s. s == n) stack ≡ true

-- the rank of a type. What is past the table has the lowest
abbrev pub rank_of : List ℕ → ℕ → ℕ
rank_of ranks n = slice_index_or ranks n 0

-- no step leads to a higher rank
abbrev pub AreRanked : List Row → List ℕ → Type 0
AreRanked rows ranks = (n t : ℕ) → Contains (steps_at rows n) t → rank_of ranks t ≤ rank_of ranks n

-- each step from a type leads to a lower rank, so that it isn't represented as itself where no step leads to a higher one
abbrev pub IsLow : List Row → List ℕ → ℕ → Type 0
IsLow rows ranks n = (t : ℕ) → Contains (steps_at rows n) t → rank_of ranks t < rank_of ranks n

abbrev pub one_if_unseen : Bool → ℕ
one_if_unseen true = 0
one_if_unseen false = 1

abbrev pub unseen_count : List Bool → ℕ
unseen_count seen = sum_by one_if_unseen seen

-- types of a sort that were not seen are seen, and left to be looked at
pub record Grown (P : ℕ → Type 0) (old : List Bool) (before : List ℕ) (new : List Bool) (after : List ℕ) : Type 0 where
  pub size : length new ≡ length old
  pub kept : (m : ℕ) → Has old m → Has new m
  pub fresh : (m : ℕ) → Has new m → Has old m ⊎ (P m × Waits after m)
  pub waits : (m : ℕ) → Waits before m → Waits after m
  pub held : (m : ℕ) → Waits after m → Waits before m ⊎ Has new m
  pub count : unseen_count new + length after ≡ unseen_count old + length before

-- so with all of some types
pub record Pushed (steps : List ℕ) (old : List Bool) (before : List ℕ) (new : List Bool) (after : List ℕ) : Type 0 where
  pub grown : Grown (Contains steps) old before new after
  pub all : (t : ℕ) → Contains steps t → Has new t

-- A search from a type: the types that it has seen are reached from it, those that don't wait any more lead to seen
-- types alone, and it has begun with the steps of the type.
pub record Searching (rows : List Row) (from : ℕ) (seen : List Bool) (stack : List ℕ) : Type 0 where
  pub size : length seen ≡ length rows
  pub reached : (t : ℕ) → Has seen t → (k : ℕ) × Reaches rows (suc k) from t
  pub closed : (n t : ℕ) → Has seen n → Contains (steps_at rows n) t → Has seen t ⊎ Waits stack n
  pub held : (t : ℕ) → Waits stack t → Has seen t
  pub begun : (t : ℕ) → Contains (steps_at rows from) t → Has seen t
