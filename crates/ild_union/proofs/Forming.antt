-- The piece of a member where the discriminant stands inline.
use Rattle.std.proofs.Common.{◌≡◌, ℕ, List, IfOk, Result, Ok, Err}
use Rattle.ild_cbor.specs.declared.node.Node.{Node}
use Rattle.ild_cbor.specs.declared.piece.Piece.{Piece}
use Rattle.ild_cbor.specs.declared.piece.Piece.TheVariants as P
use Rattle.ild_cbor.specs.declared.why.Why.{Why}
use Rattle.ild_schema.specs.declared.row.Row.{Row}
use Rattle.ild_union.specs.Forms.{IsInlineOf}

pub inline_of : (rows : List Row) (ty : ℕ) (piece : Piece) (n : Node) (r : Result (ℕ × Piece) Why) → piece ≡ P.Node n → IfOk r (λ p. p.1 ≡ P.Inline n ty) → IfOk r (λ p. IsInlineOf rows ty piece p.1)
inline_of rows ty piece n (Ok p) is same = λ e. (n, is, same)
inline_of rows ty piece n (Err why) is same = tt
