-- Parts of which no entry is passed over, where no discriminant stands inline.
use Rattle.std.proofs.Common.{◌≡◌, ℕ, List, Bool, true, false, Option, Some, None, is_some, IfSome, sym, ◌∙◌}
use Rattle.ild_cbor.specs.declared.piece.Piece.{Piece}
use Rattle.ild_layer_piece.specs.Pieces.{passed_key}
use Rattle.ild_schema.specs.declared.row.Row.{Row}
use Rattle.ild_union.specs.Forms.{passes_over}
use Rattle.ild_layer_parts.specs.declared.part.Part.{Part}
use Rattle.ild_layer_parts.specs.PassedOver.{IsPieceOf, IsWhole}

not_both : {A : Type 0} (b : Bool) → b ≡ true → b ≡ false → A
not_both b there none = absurd (cc (sym there ∙ none))

module _ (rows : List Row) (ty : ℕ) (y : Piece) (none : is_some (passed_key rows ty) ≡ false) where
  pub whole_piece : (x : Part) → IsWhole x → IsPieceOf rows ty y x
  whole_piece x whole = record {
    inline = λ e. not_both (is_some (passed_key rows ty)) e none;
    passed = λ e. not_both (passes_over x.piece) e whole;
  }

  pub whole_pieces : (o : Option Part) → IfSome o IsWhole → IfSome o (IsPieceOf rows ty y)
  whole_pieces None whole = tt
  whole_pieces (Some x) whole = whole_piece x whole
