-- The fields of a struct that are left.
use Rattle.std.specs.Prelude.{◌≡◌, ℕ, zero, suc, ◌+◌, ◌-◌, ◌++◌, Bool, true, false, cond, not, List, [], ◌∷◌, Option, Some, None, drop, length, slice_get}
use Rattle.std.specs.List.{AllByRecursion}
use Rattle.ild_data.specs.Data.{Data}
use Rattle.ild_cbor.specs.declared.piece.Piece.{Piece}
use Rattle.ild_layer_piece.specs.Pieces.{StandsFor}
use Rattle.ild_schema.specs.Fitting.{ImplicitFits}
use Rattle.ild_schema.specs.Legible.{IsLegible}
use Rattle.ild_schema.specs.declared.def.Field.{Field}
use Rattle.ild_schema.specs.declared.row.Row.{Row}
use Rattle.ild_schema.specs.declared.def.StructDef.{StructDef}
use Rattle.ild_struct.specs.declared.parts.StructParts.{StructParts}
use Rattle.ild_struct.specs.Parts.{ArePartsOf, fields_of}
use Rattle.ild_typed.specs.Fields.{is_implicit}
use Rattle.ild_typed.specs.Spots.{Spot, field_spots}
use Rattle.ild_layer_parts.specs.declared.fields.Fields.{Fields}
use Rattle.ild_layer_parts.specs.declared.part.Part.{Part}
use Rattle.ild_layer_parts.specs.Part.{IsFirst}

abbrev pub fields_left : Fields → ℕ
fields_left s = length s.def.now.fields - s.next

-- whether a field stands in the data
abbrev pub is_there : Field → Option Data → Bool
is_there f None = false
is_there f (Some d) = not (is_implicit f.implicit d)

abbrev pub count_there : Field → Option Data → ℕ
count_there f o = cond (is_there f o) 1 0

-- how many of the first fields do
abbrev pub written_in : ℕ → List Field → List (Option Data) → ℕ
written_in zero fs os = 0
written_in (suc n) [] os = 0
written_in (suc n) (f ∷ fs) [] = 0
written_in (suc n) (f ∷ fs) (o ∷ os) = count_there f o + written_in n fs os

pub record FieldsLeft (rows : List Row) (def : StructDef) (parts : StructParts) (next : ℕ) (ps : List Spot) : Type 0 where
  pub legible : IsLegible rows
  pub fitting : AllByRecursion (ImplicitFits rows) def.fields
  pub ty : ℕ
  pub tree : Data
  pub held : List (Option Data)
  pub are : ArePartsOf rows ty tree held parts
  pub same : fields_of parts ≡ def.fields
  pub is : ps ≡ field_spots def.form (written_in next def.fields held) (drop next def.fields) (drop next held)

abbrev pub HasFields : List Row → Fields → List Spot → Type 0
HasFields rows s ps = FieldsLeft rows s.def.now s.parts s.next ps

-- the first field that is left has data
abbrev pub IsFieldThere : List Row → Fields → List Spot → Type 0
IsFieldThere rows s ps = (h : HasFields rows s ps) → (d : Data) × (slice_get h.held s.next ≡ Some (Some d))

-- a piece for a field with these data: none where it is absent, or left out as implicit
abbrev pub Handed : List Row → Field → Option Data → Option Piece → Type 0
Handed rows f None None = Unit {0}
Handed rows f None (Some p) = ⊥
Handed rows f (Some d) None = is_implicit f.implicit d ≡ true
Handed rows f (Some d) (Some p) = StandsFor rows p d

pub record SplitsField (rows : List Row) (ps : List Spot) (o : Option Part) (rest : Fields) : Type 0 where
  pub taken : List Spot
  pub others : List Spot
  pub is : ps ≡ taken ++ others
  pub first : IsFirst rows o taken
  pub left : HasFields rows rest others

abbrev pub SplitsFields : List Row → List Spot → Option (Option Part × Fields) → Type 0
SplitsFields rows ps None = ps ≡ []
SplitsFields rows ps (Some r) = SplitsField rows ps r.0 r.1
