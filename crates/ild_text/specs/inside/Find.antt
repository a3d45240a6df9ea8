-- The first place from which a text begins with a delimiter.
use Rattle.std.specs.Prelude.{ℕ, ◌<◌, ◌≤◌, List, Option, MatchOption}
use Rattle.ild_schema.specs.Joins.{Occurs}

-- the delimiter occurs nowhere from one place on and before another
abbrev pub NoneWithin : List ℕ → List ℕ → ℕ → ℕ → Type 0
NoneWithin delim text from to = (at : ℕ) → from ≤ at → at < to → Occurs delim text at → ⊥

-- this is the first occurrence at a place or behind it
pub record IsNext (delim text : List ℕ) (from at : ℕ) : Type 0 where
  pub behind : from ≤ at
  pub here : Occurs delim text at
  pub first : NoneWithin delim text from at

abbrev pub FindsText : List ℕ → List ℕ → ℕ → Option ℕ → Type 0
FindsText delim text from r = MatchOption r ((at : ℕ) → from ≤ at → Occurs delim text at → ⊥) (IsNext delim text from)
