-- The pairs of a text of entries: the entry delimiter parts the entries, and in each the inner delimiter first stands
-- behind the key.
use Rattle.std.specs.Prelude.{ℕ, Bool, true, ◌&&◌, is_some, unwrap_or, List, [], ◌∷◌, map}
use Rattle.ild_text.specs.Cut.{cut, halves}

-- the entries of a text: the empty text has none
abbrev pub entries : List ℕ → List ℕ → List (List ℕ)
entries entry [] = []
entries entry (b ∷ bs) = cut entry (b ∷ bs)

-- whether each entry has an inner delimiter
abbrev pub are_keyed : List ℕ → List (List ℕ) → Bool
are_keyed inner [] = true
are_keyed inner (e ∷ es) = is_some (halves inner e) && are_keyed inner es

-- the key and the value of an entry
abbrev pub pair_of : List ℕ → List ℕ → List ℕ × List ℕ
pair_of inner e = unwrap_or (halves inner e) (e, [])

abbrev pub pairs_of : List ℕ → List ℕ → List ℕ → List (List ℕ × List ℕ)
pairs_of inner entry text = map (pair_of inner) (entries entry text)
