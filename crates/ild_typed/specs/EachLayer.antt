-- A test of every layer of a value.
use Rattle.std.specs.Prelude.{Bool, false, ◌||◌, List, [], ◌∷◌, Option}
use Rattle.std.specs.Option.{option_map_or}
use Rattle.ild_schema.specs.declared.number.Slot.{Slot}
use Rattle.ild_schema.specs.declared.def.TypeDef.{TypeDef}
use Rattle.ild_schema.specs.declared.def.Field.{Field}
use Rattle.ild_schema.specs.declared.row.Row.{Row}
use Rattle.ild_schema.specs.Value as V
use Rattle.ild_schema.specs.Value.{Value, Values, Pairs, Optionals}
use Rattle.ild_schema.specs.Slots.{form_of}
use Rattle.ild_typed.specs.Slots.{element_of, fields_of, member_of}

-- ---- a test of every layer

abbrev mutual
  pub some_layer : (Option TypeDef → Value → Bool) → List Row → Slot → Value → Bool
  some_layer test rows s (V.list vs) = test (form_of rows s) (V.list vs) || option_map_or (λ u. some_value test rows u vs) (element_of (form_of rows s)) false
  some_layer test rows s (V.map ps) = test (form_of rows s) (V.map ps) || option_map_or (λ u. some_pair test rows u ps) (element_of (form_of rows s)) false
  some_layer test rows s (V.struct os) = test (form_of rows s) (V.struct os) || some_field test rows (fields_of (form_of rows s)) os
  some_layer test rows s (V.union n v) = test (form_of rows s) (V.union n v) || option_map_or (λ u. some_layer test rows u v) (member_of (form_of rows s) n) false
  some_layer test rows s v = false

  pub some_value : (Option TypeDef → Value → Bool) → List Row → Slot → Values → Bool
  some_value test rows s V.no_values = false
  some_value test rows s (V.value v vs) = some_layer test rows s v || some_value test rows s vs

  pub some_pair : (Option TypeDef → Value → Bool) → List Row → Slot → Pairs → Bool
  some_pair test rows s V.no_pairs = false
  some_pair test rows s (V.pair k v ps) = some_layer test rows s v || some_pair test rows s ps

  pub some_field : (Option TypeDef → Value → Bool) → List Row → List Field → Optionals → Bool
  some_field test rows fs V.no_optionals = false
  some_field test rows [] (V.absent os) = false
  some_field test rows [] (V.present v os) = false
  some_field test rows (f ∷ fs) (V.absent os) = some_field test rows fs os
  some_field test rows (f ∷ fs) (V.present v os) = some_layer test rows f.slot v || some_field test rows fs os
