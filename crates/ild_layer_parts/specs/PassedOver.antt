-- The item in which the piece of a part stands: an entry is passed over exactly where the discriminant of a union stands inline.
use Rattle.std.specs.Prelude.{◌≡◌, ℕ, true, false, is_some, IfSome, List, Option}
use Rattle.ild_cbor.specs.declared.piece.Piece.{Piece}
use Rattle.ild_layer_piece.specs.Pieces.{passed_key}
use Rattle.ild_schema.specs.declared.row.Row.{Row}
use Rattle.ild_union.specs.Forms.{IsInlineOf, passes_over}
use Rattle.ild_layer_parts.specs.declared.part.Part.{Part}
use Rattle.ild_layer_parts.specs.declared.parts.Parts.{Parts}
use Rattle.ild_layer_parts.specs.declared.parts.Parts.TheVariants as P

-- no entry of a part is passed over
abbrev pub IsWhole : Part → Type 0
IsWhole x = passes_over x.piece ≡ false

-- a part of a piece of the type with a number
pub record IsPieceOf (rows : List Row) (ty : ℕ) (y : Piece) (x : Part) : Type 0 where
  pub inline : IsInlineOf rows ty y x.piece
  pub passed : passes_over x.piece ≡ true → is_some (passed_key rows ty) ≡ true

-- the parts that are left of such a piece
abbrev pub AreInside : List Row → ℕ → Piece → Parts → Type 0
AreInside rows ty y (P.Member x) = IsPieceOf rows ty y x
AreInside rows ty y P.Nothing = Unit {0}
AreInside rows ty y parts = is_some (passed_key rows ty) ≡ false

abbrev pub AreInsideBoth : List Row → ℕ → Piece → Option Part → Parts → Type 0
AreInsideBoth rows ty y o rest = IfSome o (IsPieceOf rows ty y) × AreInside rows ty y rest
