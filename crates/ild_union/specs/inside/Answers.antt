-- What is answered of a union, with what the schema says of it at hand.
use Rattle.std.specs.Prelude.{◌≡◌, ℕ, List, Option, Some, None, Result, Ok, Err, MatchResult}
use Rattle.ild_data.specs.Data.{Data}
use Rattle.ild_cbor.specs.declared.kind.Kind.{Kind}
use Rattle.ild_cbor.specs.declared.kind.Kind.TheVariants as K
use Rattle.ild_cbor.specs.declared.piece.Piece.{Piece}
use Rattle.ild_cbor.specs.declared.why.Why.{Why}
use Rattle.ild_cbor.specs.declared.why.Why.TheVariants as Y
use Rattle.ild_schema.specs.declared.def.KindWord.{KindWord}
use Rattle.ild_schema.specs.declared.def.KindWord.TheVariants as W
use Rattle.ild_schema.specs.declared.def.TypeDef.TheVariants as D
use Rattle.ild_schema.specs.declared.def.UnionDef.{UnionDef}
use Rattle.ild_schema.specs.declared.row.Row.{Row}
use Rattle.ild_typed.specs.Causes.{why_of}
use Rattle.ild_typed.specs.Composed.{union_form}
use Rattle.ild_layer_piece.specs.Answers.{told}
use Rattle.ild_layer_piece.specs.Pieces.{StandsFor}

-- the number of a member and a piece for its data, of which the data are the union's layer
abbrev pub IsMember : List Row → UnionDef → Data → ℕ × Piece → Type 0
IsMember rows u t p = (d : Data) × StandsFor rows p.1 d × (union_form u.form u.members (p.0, d) ≡ Some t)

abbrev pub UnionAnswer : List Row → UnionDef → Data → Result (ℕ × Piece) Why → Type 0
UnionAnswer rows u t r = MatchResult r (IsMember rows u t) (λ w. why_of (D.Union u) t ≡ Some (told w))

-- the number that was found with a piece, or that the discriminant is none of a member's
abbrev pub member_of : Piece → Option ℕ → Result (ℕ × Piece) Why
member_of part None = Err Y.Member
member_of part (Some n) = Ok (n, part)

-- the kind in the words of schemas
abbrev pub word_of : Kind → KindWord
word_of K.Null = W.Null
word_of K.Bool = W.Bool
word_of K.Int = W.Int
word_of K.Text = W.Text
word_of K.Bytes = W.Bytes
word_of K.List = W.List
word_of K.Map = W.Map
word_of K.Link = W.Link
