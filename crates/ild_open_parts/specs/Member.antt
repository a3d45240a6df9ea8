-- The member of a union, as a reader answers it.
use Rattle.std.specs.Prelude.{◌≡◌, ◌<◌, ℕ, List, length, Some, slice_get}
use Rattle.ild_cbor.specs.declared.piece.Piece.{Piece}
use Rattle.ild_data.specs.Data.{Data}
use Rattle.ild_layer_parts.specs.Ready.{IsInlined}
use Rattle.ild_layer_piece.specs.Pieces.{IsNumbered, StandsFor}
use Rattle.ild_schema.specs.Slots.{plainly}
use Rattle.ild_schema.specs.declared.def.Member.{Member}
use Rattle.ild_schema.specs.declared.def.TypeDef.TheVariants as D
use Rattle.ild_schema.specs.declared.def.UnionDef.{UnionDef}
use Rattle.ild_schema.specs.declared.number.Slot.{Slot}
use Rattle.ild_schema.specs.declared.row.Row.{Row}
use Rattle.ild_typed.specs.Composed.{composed}
use Rattle.ild_typed.specs.Hamt.{alone}
use Rattle.ild_typed.specs.Layer as L

-- it is the member that the data show: its number, its slot, and a piece that stands for its data
pub record ShowsMember (rows : List Row) (r : ℕ × Slot × Piece) (k : ℕ) (member : Member) (c : Data) : Type 0 where
  pub number : k ≡ r.0
  pub slot : plainly member.ty ≡ r.1
  pub stands : StandsFor rows r.2 c

pub record IsMemberOf (rows : List Row) (def : UnionDef) (piece : Piece) (r : ℕ × Slot × Piece) : Type 0 where
  pub within : r.1.ty.0 < length rows
  pub numbered : IsNumbered rows r.2
  pub inlined : IsInlined rows r.1 r.2
  pub same : (t : Data) (k : ℕ) (member : Member) (c : Data) → StandsFor rows piece t → slice_get def.members k ≡ Some member
      → composed alone (D.Union def) (L.union k c) ≡ Some t → ShowsMember rows r k member c
