-- Where the pair of a field stands among the pairs of a struct's fields, by the names alone.
use Rattle.std.specs.Prelude.{ℕ, zero, suc, Bool, false, cond, List, [], ◌∷◌, Option, Some, None}
use Rattle.ild_data.specs.Key.{same_text}
use Rattle.ild_schema.specs.Marks.{field_text}
use Rattle.ild_schema.specs.declared.def.Field.{Field}

-- whether the first pair has this key
abbrev pub is_first : {V : Type 0} → List ℕ → List (List ℕ × V) → Bool
is_first k [] = false
is_first k (p ∷ ps) = same_text k p.0

-- the pairs behind the first one, where that has this key
abbrev pub behind_first : {V : Type 0} → List ℕ → List (List ℕ × V) → Option (List (List ℕ × V))
behind_first k [] = None
behind_first k (p ∷ ps) = cond (same_text k p.0) (Some ps) None

-- and all where it has not
abbrev pub passed : {V : Type 0} → List ℕ → List (List ℕ × V) → List (List ℕ × V)
passed k [] = []
passed k (p ∷ ps) = cond (same_text k p.0) ps (p ∷ ps)

-- the pairs that are left behind those of so many fields, and how many these are
abbrev pub left_behind : {V : Type 0} → List Field → ℕ → List (List ℕ × V) → List (List ℕ × V)
left_behind [] n ps = ps
left_behind (f ∷ fs) zero ps = ps
left_behind (f ∷ fs) (suc n) ps = left_behind fs n (passed (field_text f) ps)

abbrev pub count_behind : {V : Type 0} → List Field → ℕ → List (List ℕ × V) → ℕ
count_behind [] n ps = 0
count_behind (f ∷ fs) zero ps = 0
count_behind (f ∷ fs) (suc n) ps = cond (is_first (field_text f) ps) (suc (count_behind fs n (passed (field_text f) ps))) (count_behind fs n (passed (field_text f) ps))
