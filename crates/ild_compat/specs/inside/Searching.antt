-- How far a search through the pairs of types has come.
use Rattle.std.specs.Prelude.{◌≡◌, ℕ, ◌<◌, true, List, length, slice_index_or}
use Rattle.std.specs.List.{AllByRecursion}
use Rattle.ild_schema.specs.declared.number.Slot.{Slot}
use Rattle.ild_schema.specs.declared.row.Row.{Row}
use Rattle.ild_compat.specs.declared.met.Pair.{Pair}
use Rattle.ild_compat.specs.Compatible.{IsReached}
use Rattle.ild_compat.specs.inside.Met.{is_met_at, IsOf}
use Rattle.ild_compat.specs.inside.Passed.{IsPassed}

-- the types of slots that are reached
pub record IsFound (rows others : List Row) (a b : Slot) (p : Pair) : Type 0 where
  pub s : Slot
  pub t : Slot
  pub reached : IsReached rows others a b s t
  pub of : IsOf p s t
  pub first : p.first.0 < length rows
  pub next : p.next.0 < length others

-- so many of the pairs that were met are passed
pub record Searches (rows others : List Row) (a b : Slot) (done : ℕ) (pairs : List Pair) : Type 0 where
  pub found : AllByRecursion (IsFound rows others a b) pairs
  pub begun : is_met_at pairs a b ≡ true
  pub passed : (i : ℕ) (d : Pair) → i < done → i < length pairs → IsPassed rows others (slice_index_or pairs i d) pairs
