-- How many parts a value has: the fields that are present, the entries or the elements.
use Rattle.std.specs.Prelude.{◌≡◌, ℕ, suc, Bool, true, false, cond, List, [], ◌∷◌, Option, Some, None, length, slice_get}
use Rattle.ild_data.specs.Data.{Data}
use Rattle.ild_schema.specs.declared.def.Field.{Field}
use Rattle.ild_typed.specs.Holder.{Holder, any_elements, any_entries, elements, entries, fields}

-- of so many parts some are there
abbrev pub present_of : {A : Type 0} → List (Option A) → ℕ
present_of [] = 0
present_of (None ∷ os) = present_of os
present_of (Some x ∷ os) = suc (present_of os)

abbrev pub count_in : Holder → Option ℕ
count_in (fields fs os) = Some (present_of os)
count_in (entries key slot paired ps) = Some (length ps)
count_in (elements slot vs) = Some (length vs)
count_in (any_entries ms) = Some (length ms)
count_in (any_elements ds) = Some (length ds)
count_in h = None

-- ---- fields of a struct: those that aren't optional, and the optional ones among the parts that are written

abbrev pub required_of : List Field → ℕ
required_of [] = 0
required_of (f ∷ fs) = cond f.optional (required_of fs) (suc (required_of fs))

abbrev pub is_optional_in : Option Field → Bool
is_optional_in None = false
is_optional_in (Some f) = f.optional

abbrev pub is_optional_at : List Field → ℕ → Bool
is_optional_at fs i = is_optional_in (slice_get fs i)

abbrev pub optional_of : List Field → List (ℕ × Data) → ℕ
optional_of fs [] = 0
optional_of fs (x ∷ xs) = cond (is_optional_at fs x.0) (suc (optional_of fs xs)) (optional_of fs xs)

-- what is absent is optional
abbrev pub MayLack : List Field → List (Option Data) → Type 0
MayLack [] [] = Unit {0}
MayLack [] (o ∷ os) = ⊥
MayLack (f ∷ fs) [] = ⊥
MayLack (f ∷ fs) (Some d ∷ os) = MayLack fs os
MayLack (f ∷ fs) (None ∷ os) = (f.optional ≡ true) × MayLack fs os
