-- The laws of joined texts: what is computed here of parts is what splits of texts speak of.
use Rattle.std.specs.Prelude.{◌≡◌, ◌↔◌, ℕ, ◌<◌, ◌≤◌, List, length, Some}
use Rattle.ild_schema.specs.Joins.{IsJoin, IsPairs}
use Rattle.ild_typed.specs.Texts.{join, join_pairs}

-- a text is joined of parts exactly where the delimiter occurs in it at their joints and nowhere else
abbrev pub JoinsAreJoins : Type 0
JoinsAreJoins = (delim : List ℕ) (parts : List (List ℕ)) (text : List ℕ) → 0 < length delim → 1 ≤ length parts → (join delim parts ≡ Some text) ↔ IsJoin delim parts text

-- and so of pairs
abbrev pub PairsArePairs : Type 0
PairsArePairs =
    (inner entry : List ℕ) (pairs : List (List ℕ × List ℕ)) (text : List ℕ) → 0 < length inner → 0 < length entry
    → (join_pairs inner entry pairs ≡ Some text) ↔ IsPairs inner entry pairs text
