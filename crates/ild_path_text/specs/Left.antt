-- Parts that are left of a text, and what stands before a part.
use Rattle.std.specs.Prelude.{ℕ, zero, suc, List, [], ◌++◌, Option, Some, None}
use Rattle.ild_text.specs.Cut.{cut}

-- the parts into which a delimiter cuts what is left, or none
abbrev pub parts_left : List ℕ → Option (List ℕ) → List (List ℕ)
parts_left delim None = []
parts_left delim (Some text) = cut delim text

-- what stands before a part that has so many parts before it
abbrev pub between : List ℕ → ℕ → List ℕ
between delim zero = []
between delim (suc n) = delim

-- what stands behind so many parts
abbrev pub tail : List ℕ → ℕ → Option (List ℕ) → List ℕ
tail delim n None = []
tail delim n (Some text) = between delim n ++ text
