-- What is found of data of a type by themselves: their parts and the room that is left for these, or why there are none.
use Rattle.std.specs.Prelude.{◌≡◌, ℕ, ◌+◌, ◌<◌, false, IfSome, List, [], Option, Some, None, Result, Ok, Err}
use Rattle.ild_data.specs.Data.{Data}
use Rattle.ild_cbor.specs.declared.piece.Piece.{Piece}
use Rattle.ild_layer_piece.specs.Answers.{told}
use Rattle.ild_layer_piece.specs.Pieces.{StandsFor}
use Rattle.ild_schema.specs.declared.def.MapForm.TheVariants as MF
use Rattle.ild_schema.specs.declared.def.TypeDef.TheVariants as D
use Rattle.ild_schema.specs.declared.number.TypeNo.{TypeNo}
use Rattle.ild_schema.specs.declared.def.TypeDef.{TypeDef}
use Rattle.ild_schema.specs.declared.row.Row.{Row}
use Rattle.ild_schema.specs.Slots.{form_of}
use Rattle.ild_schema.specs.declared.number.Slot.{Slot}
use Rattle.ild_typed.specs.Pieces.{IsWhy, is_null_there, needs, why_at}
use Rattle.ild_typed.specs.Refused.{AreParts}
use Rattle.ild_typed.specs.Spots.{Spot}
use Rattle.ild_view_walk.specs.declared.opening.Opening.{Opening}
use Rattle.ild_view_walk.specs.declared.opening.Stop.{Stop}
use Rattle.ild_view_walk.specs.declared.opening.Stop.TheVariants as S
use Rattle.ild_layer_parts.specs.Parts.{HasLeft}
use Rattle.ild_layer_parts.specs.Ready.{AreReady}

pub record HasOpened (rows : List Row) (room : ℕ) (d : TypeDef) (t : Data) (x : Opening) : Type 0 where
  pub none : why_at room d t ≡ None
  pub spots : List Spot
  pub parts : AreParts d t spots
  pub room_is : x.room + needs d t ≡ room
  pub left : HasLeft rows x.parts spots

abbrev pub OpensPiece : List Row → ℕ → TypeDef → Data → Result (Option Opening) Stop → Type 0
OpensPiece rows room d t (Ok None) = (why_at room d t ≡ None) × AreParts d t []
OpensPiece rows room d t (Ok (Some x)) = HasOpened rows room d t x
OpensPiece rows room d t (Err (S.Why w)) = IsWhy room d t (told w)
OpensPiece rows room d t (Err S.Memory) = Unit {0}

-- a text is opened as the pairs of a map, behind these delimiters
abbrev pub OpensTextPairs : Piece → ℕ → TypeNo → Slot → List ℕ → List ℕ → Result (Option Opening) Stop → Type 0
OpensTextPairs piece room key value inner entry r =
    (rows : List Row) (key_at at : ℕ) (t : Data) → StandsFor rows piece t → OpensPiece rows room (D.Map key key_at value at (MF.StringPairs inner entry)) t r

-- the parts can be checked, in less room
abbrev pub IsOpening : List Row → ℕ → Result (Option Opening) Stop → Type 0
IsOpening rows room (Ok o) = IfSome o (λ x. AreReady rows x.parts × (x.room < room))
IsOpening rows room (Err stop) = Unit {0}

-- the piece by itself is refused
pub record IsStopped (rows : List Row) (room : ℕ) (s : Slot) (t : Data) (stop : Stop) : Type 0 where
  pub there : is_null_there s t ≡ false
  pub type : TypeDef
  pub form : form_of rows s ≡ Some type
  pub opens : OpensPiece rows room type t (Err stop)
