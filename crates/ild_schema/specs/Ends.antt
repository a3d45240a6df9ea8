-- What is kept of copies: for a copy the type to which it leads, and nothing for each other type.
use Rattle.std.specs.Prelude.{◌≡◌, ℕ, ◌<◌, List, Option, Some, length, slice_get}
use Rattle.std.specs.Option.{option_map_or, option_and_then}
use Rattle.ild_schema.specs.declared.number.TypeNo.{TypeNo}
use Rattle.ild_schema.specs.declared.row.Row.{Row}
use Rattle.ild_schema.specs.Copies.{base}

-- what is kept for a type
abbrev pub kept_at : List (Option TypeNo) → ℕ → Option TypeNo
kept_at ends n = option_and_then (λ end. end) (slice_get ends n)

-- the type to which a type leads, by what is kept: itself, where nothing is
abbrev pub end_of : List (Option TypeNo) → ℕ → ℕ
end_of ends n = option_map_or (λ end. end.0) (kept_at ends n) n

abbrev pub IsEnded : List Row → List (Option TypeNo) → ℕ → Type 0
IsEnded rows ends n = end_of ends n ≡ base rows n

-- for each type nothing or its end
pub record AreEnds (rows : List Row) (ends : List (Option TypeNo)) : Type 0 where
  pub count : length ends ≡ length rows
  pub right : (n : ℕ) (end : TypeNo) → kept_at ends n ≡ Some end → end.0 ≡ base rows n

-- and for each copy its end
pub record HasEnds (rows : List Row) (ends : List (Option TypeNo)) : Type 0 where
  pub count : length ends ≡ length rows
  pub ended : (n : ℕ) → n < length rows → IsEnded rows ends n
