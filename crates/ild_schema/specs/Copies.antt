-- Copies: a type that is the same as another, and the type at which a chain of them ends.
use Rattle.std.specs.Prelude.{◌≡◌, ℕ, zero, suc, ◌<◌, List, Option, Some, None, length}
use Rattle.std.specs.Option.{option_map_or, option_and_then}
use Rattle.ild_schema.specs.declared.def.TypeDef.{TypeDef}
use Rattle.ild_schema.specs.declared.def.TypeDef.TheVariants as D
use Rattle.ild_schema.specs.declared.row.Row.{Row}
use Rattle.ild_schema.specs.Rows.{def_at}

-- the target of a copy
abbrev pub target_of : TypeDef → Option ℕ
target_of (D.Copy target) = Some target.0
target_of d = None

abbrev pub target_in : Option TypeDef → Option ℕ
target_in None = None
target_in (Some d) = target_of d

-- the type to which a type leads where at most so many copies are followed
abbrev pub followed : List Row → ℕ → ℕ → ℕ
followed rows zero n = n
followed rows (suc k) n = option_map_or (λ target. followed rows k target) (target_in (def_at rows n)) n

-- the type to which a type leads. As many copies as there are types are enough where no copy leads to itself
abbrev pub base : List Row → ℕ → ℕ
base rows n = followed rows (length rows) n

-- the type to which so many copies lead from a type
abbrev pub leads : List Row → ℕ → ℕ → Option ℕ
leads rows zero n = Some n
leads rows (suc k) n = option_and_then (λ target. leads rows k target) (target_in (def_at rows n))

-- a type that is, through copies, a copy of itself
abbrev pub IsCircular : List Row → ℕ → Type 0
IsCircular rows n = (k : ℕ) × (leads rows (suc k) n ≡ Some n)

abbrev pub NoneIsCircular : List Row → Type 0
NoneIsCircular rows = (n : ℕ) → IsCircular rows n → ⊥

abbrev pub FirstIsCircular : List Row → ℕ → Type 0
FirstIsCircular rows n = IsCircular rows n × ((m : ℕ) → m < n → IsCircular rows m → ⊥)
