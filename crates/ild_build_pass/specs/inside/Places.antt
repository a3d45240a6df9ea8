-- The fields of a struct that are written, by their places: in the order of declaration, and in the key order of their names
-- (DAG-CBOR, "Map Keys").
use Rattle.std.specs.Prelude.{ℕ, suc, ◌++◌, length, cond, not, false, Bool, List, [], ◌∷◌, map, Option, Some, None, option_map, option_and_then, slice_get}
use Rattle.std.specs.List.{filter}
use Rattle.std.specs.Option.{option_map_or}
use Rattle.ild_data.specs.Key.{put}
use Rattle.ild_data.specs.Spell.{spell_text}
use Rattle.ild_schema.specs.declared.def.Field.{Field}
use Rattle.ild_schema.specs.declared.row.Row.{Row}
use Rattle.ild_schema.specs.Marks.{field_text}
use Rattle.ild_schema.specs.Value.{Value}
use Rattle.ild_typed.specs.Composed.{Hamts}
use Rattle.ild_build.specs.LeftOut.{is_left_out}
use Rattle.ild_build.specs.PartAt.{field_at}
use Rattle.ild_build_leaf.specs.Made.{made}
use Rattle.ild_build_pass.specs.inside.Made.{both, counted}

-- the places, counted from a number on
abbrev pub places_from : ℕ → List Field → List (Option Value) → List ℕ
places_from n [] os = []
places_from n (f ∷ fs) [] = []
places_from n (f ∷ fs) (Some v ∷ os) = cond (is_left_out f.implicit v) (places_from (suc n) fs os) (n ∷ places_from (suc n) fs os)
places_from n (f ∷ fs) (None ∷ os) = places_from (suc n) fs os

-- whether a field stands at a place, and is there and not left out
abbrev pub is_written : List Field → List (Option Value) → ℕ → Bool
is_written fs os i = option_map_or (λ f. option_map_or (λ v. not (is_left_out f.implicit v)) (field_at os i) false) (slice_get fs i) false

-- those of these places
abbrev pub written_of : List Field → List (Option Value) → List ℕ → List ℕ
written_of fs os is = filter (is_written fs os) is

-- the name at a place; a key of its own stands past the fields
abbrev pub name_at : List Field → List ℕ → ℕ → List ℕ
name_at fs key i = option_map_or field_text (slice_get fs i) key

abbrev pub named : List Field → List ℕ → List ℕ → List (List ℕ × ℕ)
named fs key is = map (λ i. (name_at fs key i, i)) is

-- in the key order
abbrev pub in_order : {V : Type 0} → List (List ℕ × V) → List (List ℕ × V)
in_order [] = []
in_order (p ∷ ps) = put p.0 p.1 (in_order ps)

-- the value at a place, which is a text past the fields
abbrev pub value_made : Hamts → List Row → List Field → List (Option Value) → List ℕ → ℕ → Option (List ℕ)
value_made at rows fs os tag i =
    option_map_or (λ f. option_and_then (made at rows f.slot) (field_at os i)) (slice_get fs i) (Some (spell_text tag))

abbrev pub place_made : Hamts → List Row → List Field → List (Option Value) → List ℕ → List ℕ × ℕ → Option (List ℕ)
place_made at rows fs os tag p = option_map (λ t. spell_text p.0 ++ t) (value_made at rows fs os tag p.1)

abbrev pub places_made : Hamts → List Row → List Field → List (Option Value) → List ℕ → List (List ℕ × ℕ) → Option (List ℕ)
places_made at rows fs os tag [] = Some []
places_made at rows fs os tag (p ∷ ps) = both (place_made at rows fs os tag p) (places_made at rows fs os tag ps)

-- the fields at these places, as far as they are written
abbrev pub written_made : Hamts → List Row → List Field → List (Option Value) → List ℕ → Option (List ℕ)
written_made at rows fs os is = places_made at rows fs os [] (named fs [] (written_of fs os is))

-- a struct as a map
abbrev pub map_made : Hamts → List Row → List Field → List (Option Value) → Option (List ℕ)
map_made at rows fs os =
    let ps = in_order (named fs [] (places_from 0 fs os)) in
    counted 5 (length ps) (places_made at rows fs os [] ps)

-- ---- names

abbrev pub texts_of : List Field → List (Option (List ℕ))
texts_of fs = map (λ f. Some (field_text f)) fs
