-- What is answered of a unit and of an enum, with what the schema says of them at hand.
use Rattle.std.specs.Prelude.{◌≡◌, ℕ, Bool, true, false, Result, Some, MatchResult}
use Rattle.ild_data.specs.Data.{Data}
use Rattle.ild_cbor.specs.declared.why.Why.{Why}
use Rattle.ild_schema.specs.declared.def.TypeDef.TheVariants as D
use Rattle.ild_schema.specs.declared.def.UnitForm.{UnitForm}
use Rattle.ild_schema.specs.declared.def.UnitForm.TheVariants as U
use Rattle.ild_schema.specs.declared.def.EnumDef.{EnumDef}
use Rattle.ild_typed.specs.Causes.{why_of}
use Rattle.ild_typed.specs.Composed.{composed}
use Rattle.ild_typed.specs.Hamt.{alone}
use Rattle.ild_typed.specs.Layer as L
use Rattle.ild_layer_piece.specs.Answers.{told}

abbrev pub UnitAnswer : UnitForm → Data → Result (Unit {0}) Why → Type 0
UnitAnswer form t r = MatchResult r (λ u. composed alone (D.Unit form) L.unit ≡ Some t) (λ w. why_of (D.Unit form) t ≡ Some (told w))

abbrev pub EnumAnswer : EnumDef → Data → Result ℕ Why → Type 0
EnumAnswer e t r = MatchResult r (λ n. composed alone (D.Enum e) (L.enum n) ≡ Some t) (λ w. why_of (D.Enum e) t ≡ Some (told w))

-- the unit that is a truth value
abbrev pub truth_form : Bool → UnitForm
truth_form true = U.True
truth_form false = U.False
