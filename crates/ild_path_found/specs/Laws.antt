-- The parts of a front beside those of its data.
use Rattle.std.specs.Prelude.{◌≡◌, ℕ, ◌-◌, Bool, true, false, List, Some}
use Rattle.ild_data.specs.Data.{Data}
use Rattle.ild_open_parts.specs.Sites.{IsPartOf}
use Rattle.ild_path_edits.specs.Along.{room_below}
use Rattle.ild_schema.specs.Slots.{form_of}
use Rattle.ild_schema.specs.Value as V
use Rattle.ild_schema.specs.Value.{Value}
use Rattle.ild_schema.specs.declared.def.TypeDef.{TypeDef}
use Rattle.ild_schema.specs.declared.row.Row.{Row}
use Rattle.ild_typed.specs.At.{InSlot, seen}
use Rattle.ild_typed.specs.Fits.{Front}
use Rattle.ild_typed.specs.Pieces.{needs}
use Rattle.ild_typed.specs.Schema.{IsSchema}
use Rattle.ild_typed.specs.Segment.{part}

abbrev pub is_any : Value → Bool
is_any (V.any d) = true
is_any v = false

-- the part q of the front p, as a part of its data t
pub record StandsInData (rows : List Row) (room : ℕ) (p : InSlot) (t : Data) (s : List ℕ) (q : InSlot) : Type 0 where
  pub type : TypeDef
  pub form : form_of rows p.0 ≡ Some type
  pub tree : Data
  pub part : IsPartOf type t q.0 tree
  pub front : Front rows (room_below rows room p s) q.0 q.1 tree
  pub left : room_below rows room p s ≡ room - needs type t

abbrev pub PartsStandInData : Type 0
PartsStandInData =
    (rows : List Row) → IsSchema rows → (room : ℕ) (p q : InSlot) (t : Data) (s : List ℕ)
    → Front rows room p.0 p.1 t → is_any p.1 ≡ false → part (seen rows p) s ≡ Some q → StandsInData rows room p t s q
