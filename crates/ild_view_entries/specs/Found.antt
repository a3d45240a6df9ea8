-- A piece that stands for the data that were sought, where they are there.
use Rattle.std.specs.Prelude.{List, Option, Some, None}
use Rattle.ild_cbor.specs.declared.piece.Piece.{Piece}
use Rattle.ild_data.specs.Data.{Data}
use Rattle.ild_layer_piece.specs.Pieces.{StandsFor}
use Rattle.ild_schema.specs.declared.row.Row.{Row}

abbrev pub FindsPiece : List Row → Option Data → Option Piece → Type 0
FindsPiece rows None None = Unit {0}
FindsPiece rows (Some d) (Some p) = StandsFor rows p d
FindsPiece rows None (Some p) = ⊥
FindsPiece rows (Some d) None = ⊥
