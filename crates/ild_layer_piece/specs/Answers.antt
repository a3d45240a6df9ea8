-- What a reader of one layer answers: the layer that data are of a type, or the first cause why they are none (IPLD
-- Schemas, "Representation Strategies").
use Rattle.std.specs.Prelude.{◌≡◌, ℕ, List, Some, option_and_then}
use Rattle.ild_data.specs.Data.{Data}
use Rattle.ild_cbor.specs.declared.piece.Piece.{Piece}
use Rattle.ild_cbor.specs.declared.why.Why.{Why}
use Rattle.ild_cbor.specs.declared.why.Why.TheVariants as Y
use Rattle.ild_schema.specs.declared.def.TypeDef.{TypeDef}
use Rattle.ild_schema.specs.declared.row.Row.{Row}
use Rattle.ild_schema.specs.Kinds.{meant}
use Rattle.ild_typed.specs.Causes.{why_of}
use Rattle.ild_typed.specs.Composed.{composed}
use Rattle.ild_typed.specs.Hamt.{alone}
use Rattle.ild_typed.specs.Layer.{Layer}
use Rattle.ild_typed.specs.Schema.{IsSchema}
use Rattle.ild_typed.specs.Why as W
use Rattle.ild_layer_piece.specs.Pieces.{StandsFor}

-- the cause that is told
abbrev pub told : Why → W.Why
told Y.Kind = W.Kind
told Y.Name = W.Name
told Y.Missing = W.Missing
told Y.Count = W.Count
told Y.Order = W.Order
told Y.Repeat = W.Repeat
told Y.Implicit = W.Implicit
told Y.Delimiter = W.Delimiter
told Y.Prefix = W.Prefix
told Y.Member = W.Member
told Y.Depth = W.Depth
told Y.Trie = W.Trie
told Y.HashAlg = W.HashAlg
told Y.BucketSize = W.BucketSize

-- the data are this layer of the type with a number, copies followed
abbrev pub Layered : List Row → ℕ → Data → Layer Data → Type 0
Layered rows ty t l = option_and_then (λ (d : TypeDef). composed alone d l) (meant rows ty) ≡ Some t

-- they are none, and this is the first cause
abbrev pub Refused : List Row → ℕ → Data → Why → Type 0
Refused rows ty t w = option_and_then (λ (d : TypeDef). why_of d t) (meant rows ty) ≡ Some (told w)

-- a piece is a layer of a type, or has a first cause why it is none, and not both; the layer is one
pub record AnswersAreOne : Type 0 where
  pub both : (rows : List Row) → IsSchema rows → (p : Piece) (ty : ℕ) (t : Data) (l : Layer Data) (w : Why)
      → StandsFor rows p t → Layered rows ty t l → Refused rows ty t w → ⊥
  pub one : (rows : List Row) → IsSchema rows → (ty : ℕ) (t : Data) (l m : Layer Data) → Layered rows ty t l → Layered rows ty t m → l ≡ m
