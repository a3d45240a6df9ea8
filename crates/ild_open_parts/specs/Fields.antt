-- What is answered of a field: nothing where it is absent, and else what a reader answers of its data.
use Rattle.std.specs.Prelude.{◌≡◌, ℕ, Bool, List, Option, None, Some, Result, Ok, Err}
use Rattle.ild_cbor.specs.declared.piece.Piece.{Piece}
use Rattle.ild_data.specs.Data.{Data}
use Rattle.ild_edges.specs.Store.{Moment}
use Rattle.ild_open_held.specs.Splits.{HasFront}
use Rattle.ild_layer_piece.specs.Pieces.{StandsFor}
use Rattle.ild_schema.specs.Fitting.{ImplicitFits}
use Rattle.ild_schema.specs.declared.def.Field.{Field}
use Rattle.ild_schema.specs.declared.number.Slot.{Slot}
use Rattle.ild_schema.specs.declared.row.Row.{Row}
use Rattle.ild_schema.specs.declared.val.Val.{Val}
use Rattle.ild_struct.specs.Parts.{IsFieldPart}
use Rattle.ild_struct.specs.declared.part.Part.{Part}
use Rattle.ild_typed.specs.Schema.{IsSchema}
use Rattle.ild_open_parts.specs.Reads.{Reads}
use Rattle.ild_open_parts.specs.declared.fault.OpenFault.{OpenFault}

-- a front stands there that fits, where the field is there
abbrev pub FieldFits : List Row → ℕ → Slot → Option Data → Type 0
FieldFits rows room s None = Unit {0}
FieldFits rows room s (Some d) = HasFront rows room (s, d)

-- what was handed out of a field stands for data with a front, where it is there
pub record HasFieldFront (rows : List Row) (room : ℕ) (field : Field) (part : Part) : Type 0 where
  pub tree : Option Data
  pub is : IsFieldPart rows field tree part
  pub front : FieldFits rows room field.slot tree

abbrev pub ReadsField : (List ℕ → List ℕ) → List ℕ → List Row → ℕ → Slot → Option Data → Bool → Moment → Result (Option Val) OpenFault → Moment → Type 0
ReadsField h at rows room s None keep m r n = (r ≡ Ok None) × (n ≡ m)
ReadsField h at rows room s (Some d) keep m (Ok None) n = ⊥
ReadsField h at rows room s (Some d) keep m (Ok (Some val)) n = Reads h at rows room (s, d) keep m (Ok val) n
ReadsField h at rows room s (Some d) keep m (Err e) n = Reads h at rows room (s, d) keep m (Err e) n

-- what stands for a field
abbrev pub ReadsPart : (List ℕ → List ℕ) → List ℕ → List Row → ℕ → Bool → Field → Part → Moment → Result (Option Val) OpenFault → Moment → Type 0
ReadsPart h at rows room keep field part m r n =
    (o : Option Data) → ImplicitFits rows field → IsFieldPart rows field o part → FieldFits rows room field.slot o → ReadsField h at rows room field.slot o keep m r n

-- a piece stands for the data of a field
abbrev pub StandsThere : Part → Piece → Type 0
StandsThere part piece = (rows : List Row) (field : Field) (o : Option Data) → IsFieldPart rows field o part → (d : Data) × (o ≡ Some d) × StandsFor rows piece d

-- what is answered of a field for which no piece stands: nothing is read
abbrev pub LeftOut : Field → Part → Result (Option Val) OpenFault → Type 0
LeftOut field part r = (h : List ℕ → List ℕ) (at : List ℕ) (rows : List Row) (room : ℕ) (keep : Bool) (m : Moment) → IsSchema rows → ReadsPart h at rows room keep field part m r m
