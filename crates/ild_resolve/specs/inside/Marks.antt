-- Walks along copies: each type of a table has a mark, which is 0 as long as no walk has seen it.
use Rattle.std.specs.Prelude.{◌≡◌, ℕ, ◌<◌, ◌≤◌, ◌⊎◌, List, Option, Some, None, length, min, slice_index_or}
use Rattle.ild_schema.specs.declared.row.Row.{Row}
use Rattle.ild_schema.specs.Copies.{leads, target_in, IsCircular}
use Rattle.ild_schema.specs.Table.{def_at}

-- the mark of a type. What is past the table counts as seen
abbrev pub mark_at : List ℕ → ℕ → ℕ
mark_at marks n = slice_index_or marks n 1

abbrev pub IsSeen : List ℕ → ℕ → Type 0
IsSeen marks n = 0 < mark_at marks n

-- the target of each type that was seen was seen too
abbrev pub IsClosed : List Row → List ℕ → Type 0
IsClosed rows marks = (n t : ℕ) → IsSeen marks n → target_in (def_at rows n) ≡ Some t → IsSeen marks t

-- a type that is a copy of itself, and that was seen by a walk but not before it
abbrev pub IsNewCircular : List Row → List ℕ → List ℕ → ℕ → Type 0
IsNewCircular rows old new n = IsCircular rows n × (mark_at old n ≡ 0) × IsSeen new n

-- what a walk met: a type that is a copy of itself, and leads to each such type that the walk saw first. It met none
-- where it saw no such type first
abbrev pub HasMet : List Row → List ℕ → List ℕ → Option ℕ → Type 0
HasMet rows old new None = (n : ℕ) → IsNewCircular rows old new n → ⊥
HasMet rows old new (Some at) = (at < length rows) × IsCircular rows at × ((n : ℕ) → IsNewCircular rows old new n → (k : ℕ) × (leads rows k at ≡ Some n))

-- a walk from a type: it gives its mark to types that had none, and stops where it met what was seen, or no copy
pub record Walked (rows : List Row) (old new : List ℕ) (from mark : ℕ) (met : Option ℕ) : Type 0 where
  pub kept : (n : ℕ) → IsSeen old n → mark_at new n ≡ mark_at old n
  pub marked : (n : ℕ) → mark_at old n ≡ 0 → (mark_at new n ≡ 0) ⊎ (mark_at new n ≡ mark)
  pub first : IsSeen new from
  pub closed : IsClosed rows new
  pub found : HasMet rows old new met

-- the least of the types to which copies lead from a type
abbrev pub IsLeastOfRound : List Row → ℕ → ℕ → Type 0
IsLeastOfRound rows n least = ((k : ℕ) × (leads rows k n ≡ Some least)) × ((k m : ℕ) → leads rows k n ≡ Some m → least ≤ m)

-- the first of the seen types that is a copy of itself
abbrev pub IsFirstSeen : List Row → List ℕ → Option ℕ → Type 0
IsFirstSeen rows marks None = (n : ℕ) → IsSeen marks n → IsCircular rows n → ⊥
IsFirstSeen rows marks (Some first) = IsCircular rows first × ((n : ℕ) → IsSeen marks n → IsCircular rows n → first ≤ n)

-- walks from so many types
pub record Sought (rows : List Row) (marks : List ℕ) (count : ℕ) (first : Option ℕ) : Type 0 where
  pub seen : (n : ℕ) → n < count → IsSeen marks n
  pub low : (n : ℕ) → n < length rows → mark_at marks n ≤ count
  pub closed : IsClosed rows marks
  pub least : IsFirstSeen rows marks first

-- the lesser of two numbers, where there is a first
abbrev pub lesser : Option ℕ → ℕ → ℕ
lesser None n = n
lesser (Some m) n = min m n
