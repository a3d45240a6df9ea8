-- Values of which a kind tells that they are those of their fields.
use Rattle.std.specs.Prelude.{◌≡◌, ℕ, List, Option, Some, None, slice_get}
use Rattle.ild_cbor.specs.Scalar.{kind_of}
use Rattle.ild_cbor.specs.declared.kind.Kind.{Kind}
use Rattle.ild_cbor.specs.declared.kind.Kind.TheVariants as K
use Rattle.ild_data.specs.Data.{Data}
use Rattle.ild_schema.specs.Kinds.{meant}
use Rattle.ild_schema.specs.declared.def.Field.{Field}
use Rattle.ild_schema.specs.declared.def.TypeDef.{TypeDef}
use Rattle.ild_schema.specs.declared.def.TypeDef.TheVariants as D
use Rattle.ild_schema.specs.declared.row.Row.{Row}
use Rattle.std.specs.List.{AllByRecursion}
use Rattle.ild_layer_piece.specs.Entries.{HasLeft}
use Rattle.ild_layer_piece.specs.declared.walk.MapEntries.{MapEntries}
use Rattle.ild_schema.specs.Clear.{AreNamesApart}
use Rattle.ild_layer_fields.specs.Entries.{by_place}

-- the kind of the data of types that are scalars
abbrev pub scalar_kind : TypeDef → Option Kind
scalar_kind D.Bool = Some K.Bool
scalar_kind D.Text = Some K.Text
scalar_kind D.Bytes = Some K.Bytes
scalar_kind D.Int = Some K.Int
scalar_kind (D.Link target) = Some K.Link
scalar_kind d = None

-- the type with a number is the scalar whose data have this kind
pub record IsTold (rows : List Row) (ty : ℕ) (d : Data) : Type 0 where
  pub type : TypeDef
  pub is : meant rows ty ≡ Some type
  pub kind : scalar_kind type ≡ Some (kind_of d)

-- that of the field with a number is
abbrev pub IsToldAt : List Row → List Field → ℕ × Data → Type 0
IsToldAt rows fs x = (f : Field) → slice_get fs x.0 ≡ Some f → IsTold rows f.slot.ty.0 x.1

-- those of the fields with the names of the entries that are left are, where each of the fields has a name of its own
abbrev pub AreTold : List Row → List Field → MapEntries → Type 0
AreTold rows fs entries = AreNamesApart fs → (es : List (List ℕ × Data)) → HasLeft entries es → AllByRecursion (IsToldAt rows fs) (by_place fs es)
