-- The names with values that data show: the entries of a map, the pairs of a list, the pairs of a text.
use Rattle.std.specs.Prelude.{ℕ, Bool, true, false, ◌||◌, not, cond, nat_eq, List, [], ◌∷◌, ◌++◌, length, map, Option, Some, None}
use Rattle.std.specs.List.{list_any}
use Rattle.ild_data.specs.Data as T
use Rattle.ild_data.specs.Data.{Data}
use Rattle.ild_data.specs.Key.{same_text}
use Rattle.ild_typed.specs.Cuts.{pairs_in, is_split_pairs}

abbrev pub items_in : Data → Option (List Data)
items_in (T.list ds) = Some (T.items_list ds)
items_in d = None

-- whether something is there and passes
abbrev pub where_some : {A : Type 0} → (A → Bool) → Option A → Bool
where_some holds None = false
where_some holds (Some a) = holds a

-- ---- the pairs of a list

-- a list whose first item, where there is one, is a text
abbrev pub is_text : Data → Bool
is_text (T.text s) = true
is_text d = false

abbrev pub has_name : List Data → Bool
has_name [] = true
has_name (d ∷ ds) = is_text d

abbrev pub is_pair : Data → Bool
is_pair d = where_some has_name (items_in d)

-- its name, where there is one
abbrev pub text_of : Data → List (List ℕ)
text_of (T.text s) = s ∷ []
text_of d = []

abbrev pub name_of : List Data → List (List ℕ)
name_of [] = []
name_of (d ∷ ds) = text_of d

abbrev pub items_or : Data → List Data
items_or (T.list ds) = T.items_list ds
items_or d = []

abbrev pub pair_names : List Data → List (List ℕ)
pair_names [] = []
pair_names (d ∷ ds) = name_of (items_or d) ++ pair_names ds

-- name and value, where it has two items
abbrev pub named : List (List ℕ) → List Data → List (List ℕ × Data)
named (k ∷ ks) (d ∷ []) = (k, d) ∷ []
named ks ds = []

abbrev pub entry_of : List Data → List (List ℕ × Data)
entry_of [] = []
entry_of (d ∷ ds) = named (text_of d) ds

abbrev pub pair_entries : List Data → List (List ℕ × Data)
pair_entries [] = []
pair_entries (d ∷ ds) = entry_of (items_or d) ++ pair_entries ds

abbrev pub is_two : Data → Bool
is_two d = nat_eq (length (items_or d)) 2

-- a pair, or its name, has another kind
abbrev pub has_odd_pair : Data → Bool
has_odd_pair t = where_some (list_any (λ d. not (is_pair d))) (items_in t)

-- a pair has another number of parts
abbrev pub has_odd_count : Data → Bool
has_odd_count t = where_some (list_any (λ d. not (is_two d))) (items_in t)

-- ---- the pairs of a text, where it has a split

abbrev pub text_entries : List ℕ → List ℕ → List ℕ → List (List ℕ × Data)
text_entries inner entry s = map (λ p. (p.0, T.text p.1)) (pairs_in inner entry s)

abbrev pub split_entries : List ℕ → List ℕ → Data → Option (List (List ℕ × Data))
split_entries inner entry (T.text s) = cond (is_split_pairs inner entry s) (Some (text_entries inner entry s)) None
split_entries inner entry d = None

-- a text without a split
abbrev pub is_unsplit : List ℕ → List ℕ → Data → Bool
is_unsplit inner entry (T.text s) = not (is_split_pairs inner entry s)
is_unsplit inner entry d = false

-- ---- names

abbrev pub names : List (List ℕ × Data) → List (List ℕ)
names es = map (λ e. e.0) es

abbrev pub is_among : List ℕ → List (List ℕ) → Bool
is_among k ks = list_any (same_text k) ks

-- a name stands twice
abbrev pub has_twice : List (List ℕ) → Bool
has_twice [] = false
has_twice (k ∷ ks) = is_among k ks || has_twice ks
