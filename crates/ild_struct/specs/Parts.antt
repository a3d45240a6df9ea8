-- What a struct's layer hands out: what stands for each of its fields (IPLD Schemas, "Struct Representation Strategies").
use Rattle.std.specs.Prelude.{◌≡◌, ℕ, Bool, true, false, List, Option, Some, None, slice_get}
use Rattle.ild_data.specs.Data as T
use Rattle.ild_data.specs.Data.{Data}
use Rattle.ild_cbor.specs.Nodes.{HasData}
use Rattle.ild_schema.specs.Kinds.{meant}
use Rattle.ild_schema.specs.declared.def.Field.{Field}
use Rattle.ild_schema.specs.declared.def.StructDef.{StructDef}
use Rattle.ild_schema.specs.declared.def.TypeDef.TheVariants as D
use Rattle.ild_schema.specs.declared.row.Row.{Row}
use Rattle.ild_typed.specs.Fields.{is_implicit}
use Rattle.ild_typed.specs.Layer as L
use Rattle.ild_layer_piece.specs.Answers.{Layered}
use Rattle.ild_layer_piece.specs.Pieces.{IsNumbered, StandsFor}
use Rattle.ild_struct.specs.Source.{FormShows}
use Rattle.ild_struct.specs.Told.{AreTold}
use Rattle.ild_struct.specs.declared.part.Part.{Part}
use Rattle.ild_struct.specs.declared.part.Part.TheVariants as P
use Rattle.ild_struct.specs.declared.parts.StructParts.{StructParts}

-- the type with a number is a struct, copies followed
abbrev pub IsStruct : List Row → ℕ → StructDef → Type 0
IsStruct rows ty s = meant rows ty ≡ Some (D.Struct s)

-- ---- a part

-- what is handed out of a field with these data, or without
abbrev pub IsFieldPart : List Row → Field → Option Data → Part → Type 0
IsFieldPart rows f None P.Absent = Unit {0}
IsFieldPart rows f (Some d) P.Implicit = is_implicit f.implicit d ≡ true
IsFieldPart rows f (Some d) (P.Null n) = HasData n d × (d ≡ T.null)
IsFieldPart rows f (Some d) (P.Held p) = StandsFor rows p d × (d ≡ T.null → ⊥) × (is_implicit f.implicit d ≡ false)
IsFieldPart rows f o part = ⊥

-- of the field with a number
pub record IsFieldOf (rows : List Row) (fs : List Field) (os : List (Option Data)) (i : ℕ) (part : Part) : Type 0 where
  pub field : Field
  pub there : slice_get fs i ≡ Some field
  pub held : Option Data
  pub at : slice_get os i ≡ Some held
  pub is : IsFieldPart rows field held part

-- no discriminant is passed over in what is handed out, but of a union in the table
abbrev pub HasNumber : List Row → Part → Type 0
HasNumber rows (P.Held p) = IsNumbered rows p
HasNumber rows part = Unit {0}

-- ---- all parts

-- the fields of which parts were found
abbrev pub fields_of : StructParts → List Field
fields_of parts = parts.fields.def.now.fields

-- whether a kind told of each part that is written that it is a value of its field
abbrev pub is_told : StructParts → Bool
is_told parts = parts.told

-- these data are the parts, one for each field
pub record ArePartsOf (rows : List Row) (ty : ℕ) (t : Data) (os : List (Option Data)) (parts : StructParts) : Type 0 where
  pub table : parts.fields.acc.now ≡ rows
  pub struct : IsStruct rows ty parts.fields.def.now
  pub shows : FormShows rows parts.fields.def.now.form parts.source t
  pub layered : Layered rows ty t (L.struct os)
  pub told : is_told parts ≡ true → AreTold rows parts.fields.def.now.fields os

-- there are such data
abbrev pub HasParts : List Row → ℕ → Data → StructParts → Type 0
HasParts rows ty t parts = (os : List (Option Data)) × ArePartsOf rows ty t os parts
