-- Parts of a struct of which a kind tells that they are values of their fields.
use Rattle.std.specs.Prelude.{◌≡◌, ℕ, List, Option, Some}
use Rattle.std.specs.List.{AllByRecursion}
use Rattle.ild_cbor.specs.declared.piece.Piece.{Piece}
use Rattle.ild_data.specs.Data.{Data}
use Rattle.ild_layer_piece.specs.Entries.{HasLeft, Maps}
use Rattle.ild_layer_piece.specs.Pieces.{StandsFor}
use Rattle.ild_layer_piece.specs.declared.walk.MapEntries.{MapEntries}
use Rattle.ild_schema.specs.Clear.{AreNamesApart}
use Rattle.ild_schema.specs.declared.def.Field.{Field}
use Rattle.ild_schema.specs.declared.row.Row.{Row}
use Rattle.ild_typed.specs.Strings.{members_in}
use Rattle.ild_layer_fields.specs.Entries.{by_place}
use Rattle.ild_layer_fields.specs.Told.{IsToldAt}
use Rattle.ild_struct.specs.Present.{ArePresent}
use Rattle.ild_struct.specs.declared.source.Source.{Source}
use Rattle.ild_struct.specs.declared.source.Source.TheVariants as O

-- all data of fields that are written are told so
pub record AreTold (rows : List Row) (fs : List Field) (os : List (Option Data)) : Type 0 where
  pub parts : List (ℕ × Data)
  pub present : ArePresent fs os parts
  pub told : AllByRecursion (IsToldAt rows fs) parts

-- all entries of the map in which fields are looked up are told so
pub record IsSurveyed (rows : List Row) (fs : List Field) (source : Source) : Type 0 where
  pub piece : Piece
  pub is : source ≡ O.Map piece
  pub entries : MapEntries
  pub iterates : (u : Data) → StandsFor rows piece u → Maps (members_in u) (Some entries)
  pub told : AreNamesApart fs → (es : List (List ℕ × Data)) → HasLeft entries es → AllByRecursion (IsToldAt rows fs) (by_place fs es)
