-- A piece is a layer of a type or has a cause why it is none, and it is one layer.
use Rattle.std.proofs.Common.{◌≡◌, Option, Some, None, refl}
use Rattle.std.specs.Option.{option_and_then}
use Rattle.ild_data.specs.Data.{Data}
use Rattle.ild_schema.specs.declared.def.TypeDef.{TypeDef}
use Rattle.ild_schema.specs.Clear.{ClearType}
use Rattle.ild_schema.specs.Copies.{base}
use Rattle.ild_schema.specs.Delims.{Delims}
use Rattle.ild_schema.specs.Kinds.{meant}
use Rattle.ild_schema.specs.Legible.{IsLegible, AcceptedAreLegible}
use Rattle.ild_typed.specs.Causes.{why_of}
use Rattle.ild_typed.specs.Composed.{composed}
use Rattle.ild_typed.specs.Hamt.{alone}
use Rattle.ild_typed.specs.Laws.{LayersTell}
use Rattle.ild_typed.specs.Layer.{Layer}
use Rattle.ild_typed.specs.Why as W
use Rattle.ild_typed.specs.WhyLaws.{KeysRise, LayerOrWhy}
use Rattle.ild_layer_piece.specs.Answers.{AnswersAreOne, told}
use Rattle.ild_layer_piece.proofs.Stand.{piece_rises}

apart : (o : Option TypeDef) (t : Data) (l : Layer Data) (w : W.Why) → ((d : TypeDef) → o ≡ Some d → ClearType d × Delims d) → LayerOrWhy → KeysRise t
    → option_and_then (λ (d : TypeDef). composed alone d l) o ≡ Some t → option_and_then (λ (d : TypeDef). why_of d t) o ≡ Some w → ⊥
apart None t l w of law up made why = absurd (cc)
apart (Some d) t l w of law up made why =
    let k = of d refl in
    let none : why_of d t ≡ None = (law d k.0 k.1 t up).1 (l, made) in
    absurd (cc)

one : (o : Option TypeDef) (t : Data) (l m : Layer Data) → ((d : TypeDef) → o ≡ Some d → ClearType d) → LayersTell
    → option_and_then (λ (d : TypeDef). composed alone d l) o ≡ Some t → option_and_then (λ (d : TypeDef). composed alone d m) o ≡ Some t → l ≡ m
one None t l m of law made more = absurd (cc)
one (Some d) t l m of law made more = law d (of d refl) l m t made more

pub answers_one : AcceptedAreLegible → LayerOrWhy → LayersTell → AnswersAreOne
answers_one legible law tells = record {
  both = λ rows schema p ty t l w stands made why.
      let k : IsLegible rows = legible rows schema.accepted in
      apart (meant rows ty) t l (told w) (λ d is. (k.clear.types (base rows ty) d is, k.delims (base rows ty) d is)) law (piece_rises rows p t stands) made why;
  one = λ rows schema ty t l m made more.
      let k : IsLegible rows = legible rows schema.accepted in
      one (meant rows ty) t l m (λ d is. k.clear.types (base rows ty) d is) tells made more;
}
