-- What a type's parts are made of, where the slot of a part is one that the type may not have.
use Rattle.std.proofs.Common.{◌≡◌, List, Bool, false, Option, Some, sym, ◌∙◌, ap}
use Rattle.std.specs.Prelude.{ℕ, option_and_then}
use Rattle.std.specs.Option.{option_map_or}
use Rattle.ild_data.specs.Data.{Data}
use Rattle.ild_schema.specs.declared.number.Slot.{Slot}
use Rattle.ild_schema.specs.declared.def.TypeDef.{TypeDef}
use Rattle.ild_schema.specs.declared.row.Row.{Row}
use Rattle.ild_schema.specs.Value.{Value, Values, Pairs}
use Rattle.ild_typed.specs.Composed.{Hamts}
use Rattle.ild_typed.specs.EachLayer.{some_layer, some_value, some_pair}
use Rattle.ild_typed.specs.Represented.{represented, represented_values, represented_pairs}

abbrev pub values_data : Hamts → List Row → Option Slot → Values → Option (List Data)
values_data at rows o vs = option_and_then (λ u. represented_values at rows u vs) o

abbrev pub pairs_data : Hamts → List Row → Option Slot → Pairs → Option (List (List ℕ × Data))
pairs_data at rows o ps = option_and_then (λ u. represented_pairs at rows u ps) o

abbrev pub member_data : Hamts → List Row → Option Slot → Value → Option Data
member_data at rows o v = option_and_then (λ u. represented at rows u v) o

abbrev pub values_test : (Option TypeDef → Value → Bool) → List Row → Option Slot → Values → Bool
values_test test rows o vs = option_map_or (λ u. some_value test rows u vs) o false

abbrev pub pairs_test : (Option TypeDef → Value → Bool) → List Row → Option Slot → Pairs → Bool
pairs_test test rows o ps = option_map_or (λ u. some_pair test rows u ps) o false

abbrev pub member_test : (Option TypeDef → Value → Bool) → List Row → Option Slot → Value → Bool
member_test test rows o v = option_map_or (λ u. some_layer test rows u v) o false

-- a test of parts in the slot that a type has for them
pub given_false : (f : Slot → Bool) (o : Option Slot) (u : Slot) → o ≡ Some u → f u ≡ false → option_map_or f o false ≡ false
given_false f o u is e = ap (λ p. option_map_or f p false) is ∙ e

pub false_given : (f : Slot → Bool) (o : Option Slot) (u : Slot) → o ≡ Some u → option_map_or f o false ≡ false → f u ≡ false
false_given f o u is e = ap (λ p. option_map_or f p false) (sym is) ∙ e
