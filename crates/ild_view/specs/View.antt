-- What a view stands for: one front.
use Rattle.std.specs.Prelude.{◌≡◌, ℕ, List, Option, Some, None, Result, Ok, Err}
use Rattle.ild_data.specs.Data.{Data}
use Rattle.ild_cbor.specs.declared.node.Node.{Node}
use Rattle.ild_cbor.specs.declared.piece.Piece.{Piece}
use Rattle.ild_cbor.specs.declared.piece.Piece.TheVariants as P
use Rattle.ild_schema.specs.Value.{Value}
use Rattle.ild_schema.specs.declared.number.Slot.{Slot}
use Rattle.ild_schema.specs.declared.row.Row.{Row}
use Rattle.ild_typed.specs.Fits.{Front}
use Rattle.ild_view.specs.Body.{BodyStands}
use Rattle.ild_view.specs.declared.body.Body.{Body}
use Rattle.ild_view.specs.declared.body.Body.TheVariants as B
use Rattle.ild_view.specs.declared.view.View.{View}
use Rattle.ild_view_walk.specs.declared.fault.ViewErr.{ViewErr}
use Rattle.ild_view_walk.specs.Checks.{Faults}

abbrev pub table_of : View → List Row
table_of v = v.acc.now

abbrev pub slot_of : View → Slot
slot_of v = v.slot

abbrev pub body_of : View → Body
body_of v = v.body

abbrev pub piece_in : Body → Option Piece
piece_in (B.Held p) = Some p
piece_in (B.Implicit s) = None

-- the piece of the block, but for a value that the block leaves out
abbrev pub piece_of : View → Option Piece
piece_of v = piece_in (body_of v)

-- the view of this piece at a slot
pub record IsViewAt (rows : List Row) (s : Slot) (p : Piece) (v : View) : Type 0 where
  pub table : table_of v ≡ rows
  pub slot : slot_of v ≡ s
  pub piece : piece_of v ≡ Some p

-- the view stands for a front
pub record IsView (v : View) (f : Value) : Type 0 where
  pub room : ℕ
  pub tree : Data
  pub stands : BodyStands (table_of v) (body_of v) tree
  pub front : Front (table_of v) room (slot_of v) f tree

abbrev pub Views : List Row → ℕ → Slot → Node → Data → Result View ViewErr → Type 0
Views rows room s n t (Ok v) = IsViewAt rows s (P.Node n) v × ((f : Value) × Front rows room s f t)
Views rows room s n t (Err e) = Faults rows room s t e
