-- The parts into which a delimiter cuts a text, from its beginning on: at the delimiter a part ends, and the next one
-- begins behind it.
use Rattle.std.specs.Prelude.{ℕ, zero, suc, ◌-◌, Bool, if◌then◌else◌, List, [], ◌∷◌, Option, Some, None, length, take, drop, option_map, bytes_eq}

-- whether the text begins with the delimiter
abbrev pub begins : List ℕ → List ℕ → Bool
begins delim text = bytes_eq (take (length delim) text) delim

-- a byte in front of the first part
abbrev pub onto : ℕ → List (List ℕ) → List (List ℕ)
onto b [] = []
onto b (part ∷ parts) = (b ∷ part) ∷ parts

-- the parts of what stands behind so many bytes
abbrev pub cut_behind : List ℕ → ℕ → List ℕ → List (List ℕ)
cut_behind delim skip [] = [] ∷ []
cut_behind delim (suc skip) (b ∷ bs) = cut_behind delim skip bs
cut_behind delim zero (b ∷ bs) =
    if begins delim (b ∷ bs) then [] ∷ cut_behind delim (length delim - 1) bs else onto b (cut_behind delim 0 bs)

abbrev pub cut : List ℕ → List ℕ → List (List ℕ)
cut delim text = cut_behind delim 0 text

-- what stands before the first delimiter, and what stands behind it
abbrev pub halves : List ℕ → List ℕ → Option (List ℕ × List ℕ)
halves delim [] = None
halves delim (b ∷ bs) =
    if begins delim (b ∷ bs) then Some ([], drop (length delim) (b ∷ bs)) else option_map (λ h. (b ∷ h.0, h.1)) (halves delim bs)
