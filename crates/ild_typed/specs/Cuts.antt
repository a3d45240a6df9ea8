-- The parts of a text between its delimiters, from the left, and whether they are its parts by the delimiter rules (IPLD
-- Schemas, "stringjoin", "stringpairs").
use Rattle.std.specs.Prelude.{ℕ, zero, suc, ◌+◌, ◌-◌, Bool, false, cond, List, [], ◌∷◌, length, map, drop, Option, Some, None}
use Rattle.ild_data.specs.Key.{same_text}
use Rattle.ild_schema.specs.Prefixes.{begins}
use Rattle.ild_typed.specs.Texts.{join, join_pairs}

abbrev pub begin_first : ℕ → List (List ℕ) → List (List ℕ)
begin_first c [] = (c ∷ []) ∷ []
begin_first c (p ∷ ps) = (c ∷ p) ∷ ps

-- so many of the first characters are the rest of a delimiter
abbrev pub cut : ℕ → List ℕ → List ℕ → List (List ℕ)
cut past delim [] = [] ∷ []
cut (suc past) delim (c ∷ s) = cut past delim s
cut zero delim (c ∷ s) = cond (begins delim (c ∷ s)) ([] ∷ cut (length delim - 1) delim s) (begin_first c (cut zero delim s))

abbrev pub parted : List ℕ → List ℕ → List (List ℕ)
parted delim s = cut 0 delim s

-- what stands before the first delimiter
abbrev pub before : List ℕ → List ℕ → List ℕ
before delim [] = []
before delim (c ∷ s) = cond (begins delim (c ∷ s)) [] (c ∷ before delim s)

abbrev pub pair_in : List ℕ → List ℕ → List ℕ × List ℕ
pair_in inner s = (before inner s, drop (length (before inner s) + length inner) s)

-- the empty text is that of no pairs
abbrev pub pairs_in : List ℕ → List ℕ → List ℕ → List (List ℕ × List ℕ)
pairs_in inner entry [] = []
pairs_in inner entry (c ∷ s) = map (pair_in inner) (parted entry (c ∷ s))

-- whether a text has been made
abbrev pub gives : List ℕ → Option (List ℕ) → Bool
gives s None = false
gives s (Some t) = same_text s t

-- whether the parts are joined to the text again
abbrev pub is_split : List ℕ → List ℕ → Bool
is_split delim s = gives s (join delim (parted delim s))

abbrev pub is_split_pairs : List ℕ → List ℕ → List ℕ → Bool
is_split_pairs inner entry s = gives s (join_pairs inner entry (pairs_in inner entry s))
