-- Where a part stands among the parts of its holder, and what is written of a struct's fields in a block.
use Rattle.std.specs.Prelude.{ℕ, suc, ◌+◌, Bool, cond, List, [], ◌∷◌, length, Option, Some, None, option_map, if◌then◌else◌}
use Rattle.ild_data.specs.Data.{Data}
use Rattle.ild_data.specs.Key.{same_text}
use Rattle.ild_schema.specs.declared.def.Field.{Field}
use Rattle.ild_schema.specs.declared.number.Slot.{Slot}
use Rattle.ild_schema.specs.Marks.{field_text as represented_name}
use Rattle.ild_schema.specs.Value.{Value}
use Rattle.ild_typed.specs.Fields.{is_implicit}
use Rattle.ild_typed.specs.Strings.{cons_both}
use Rattle.ild_path_changes.specs.Pairs.{pair_if}

-- the data of each field, where each that is there has some
abbrev pub field_each : (Slot → Value → Option Data) → Field → Option Value → Option (Option Data)
field_each f g None = Some None
field_each f g (Some v) = option_map (λ d. Some d) (f g.slot v)

abbrev pub each_field : (Slot → Value → Option Data) → List Field → List (Option Value) → Option (List (Option Data))
each_field f fs [] = Some []
each_field f [] (o ∷ os) = None
each_field f (g ∷ fs) (o ∷ os) = cons_both (field_each f g o) (each_field f fs os)

-- what is left out of a block
abbrev pub left_out : Field → Data → Bool
left_out g d = is_implicit g.implicit d

-- what is written of a field: nothing of an absent one, nor of one that has its implicit value
abbrev pub written : (Field → Data → Bool) → Field → Option Data → Option Data
written implicit g None = None
written implicit g (Some d) = cond (implicit g d) None (Some d)

-- the field of a name, and what is there of it
abbrev pub field_named : List ℕ → List Field → Option Field
field_named s [] = None
field_named s (g ∷ fs) = cond (same_text s g.name) (Some g) (field_named s fs)

abbrev pub field_data : {V : Type 0} → List ℕ → List Field → List (Option V) → Option V
field_data s [] os = None
field_data s (g ∷ fs) [] = None
field_data s (g ∷ fs) (o ∷ os) = cond (same_text s g.name) o (field_data s fs os)

-- the place of a field, and how many of the fields before it are written
abbrev pub field_place : List ℕ → List Field → ℕ
field_place s [] = 0
field_place s (f ∷ fs) = if same_text s f.name then 0 else suc (field_place s fs)

abbrev pub written_before : (Field → Data → Bool) → List ℕ → List Field → List (Option Data) → ℕ
written_before implicit s [] ds = 0
written_before implicit s (f ∷ fs) [] = 0
written_before implicit s (f ∷ fs) (o ∷ ds) =
    if same_text s f.name then 0 else length (pair_if (represented_name f) (written implicit f o)) + written_before implicit s fs ds

-- the place of a key among pairs
abbrev pub place_of : {V : Type 0} → List ℕ → List (List ℕ × V) → ℕ
place_of k [] = 0
place_of k (m ∷ ms) = cond (same_text k m.0) 0 (suc (place_of k ms))
