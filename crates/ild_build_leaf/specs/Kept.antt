-- The fields of a struct that are written, by their places: those that are there and not left out.
use Rattle.std.specs.Prelude.{ℕ, suc, cond, true, Bool, List, [], ◌∷◌, Option, Some, None, option_and_then, slice_get}
use Rattle.std.specs.Option.{option_map_or}
use Rattle.ild_data.specs.Key.{key_less}
use Rattle.ild_schema.specs.declared.def.Field.{Field}
use Rattle.ild_schema.specs.Marks.{field_text}
use Rattle.ild_schema.specs.Value.{Value}
use Rattle.ild_build.specs.LeftOut.{is_left_out}
use Rattle.ild_build.specs.PartAt.{field_at}

-- the value of a field at a place, where it is written: one is there, and not left out
abbrev pub kept_at : Field → List (Option Value) → ℕ → Option Value
kept_at f os i = option_and_then (λ v. cond (is_left_out f.implicit v) None (Some v)) (field_at os i)

-- whether the name at a place comes before a key; past the fields it does
abbrev pub is_before : List Field → List ℕ → ℕ → Bool
is_before fs key i = option_map_or (λ f. key_less (field_text f) key) (slice_get fs i) true

-- how many values are there, and how many of them are not left out
abbrev pub count_present : List (Option Value) → ℕ
count_present [] = 0
count_present (Some v ∷ os) = suc (count_present os)
count_present (None ∷ os) = count_present os

abbrev pub count_written : List Field → List (Option Value) → ℕ
count_written [] os = 0
count_written (f ∷ fs) [] = 0
count_written (f ∷ fs) (Some v ∷ os) = cond (is_left_out f.implicit v) (count_written fs os) (suc (count_written fs os))
count_written (f ∷ fs) (None ∷ os) = count_written fs os
