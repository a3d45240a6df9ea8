-- The layer of which no cause holds, and the one cause of data that are none.
use Rattle.std.proofs.Common.{◌≡◌, ℕ, List, Some, None, true, false, refl, sym, ◌∙◌, ap}
use Rattle.std.specs.Prelude.{option_and_then}
use Rattle.ild_data.specs.Data.{Data}
use Rattle.ild_cbor.specs.declared.piece.Piece.{Piece}
use Rattle.ild_cbor.specs.declared.why.Why.{Why}
use Rattle.ild_schema.specs.Copies.{base}
use Rattle.ild_schema.specs.Legible.{IsLegible}
use Rattle.ild_schema.specs.Table.{def_at}
use Rattle.ild_schema.specs.declared.def.StructDef.{StructDef}
use Rattle.ild_schema.specs.declared.def.TypeDef.{TypeDef}
use Rattle.ild_schema.specs.declared.def.TypeDef.TheVariants as D
use Rattle.ild_schema.specs.declared.row.Row.{Row}
use Rattle.ild_typed.specs.Causes.{why_of}
use Rattle.ild_typed.specs.Composed.{composed, struct_form}
use Rattle.ild_typed.specs.Hamt.{alone}
use Rattle.ild_typed.specs.Layer as L
use Rattle.ild_typed.specs.Layer.{as_struct}
use Rattle.ild_typed.proofs.Basics.{then_from}
use Rattle.ild_typed.proofs.CleanTypes.{layer_or_why}
use Rattle.ild_layer_piece.specs.Answers.{Refused, told}
use Rattle.ild_layer_piece.specs.Pieces.{StandsFor}
use Rattle.ild_layer_piece.proofs.Stand.{piece_rises}
use Rattle.ild_layer_fields.specs.Causes.{struct_why}
use Rattle.ild_struct.specs.Parts.{ArePartsOf, HasParts, IsStruct, is_told}
use Rattle.ild_struct.specs.Source.{FormShows}
use Rattle.ild_struct.specs.Told.{IsSurveyed}
use Rattle.ild_struct.specs.declared.parts.StructParts.{StructParts}
use Rattle.ild_struct.proofs.Telling.{told_parts}

-- the type that was looked up
pub struct_of : (rows : List Row) (ty n : ℕ) (d : TypeDef) (s : StructDef) → n ≡ base rows ty → def_at rows n ≡ Some d → d ≡ D.Struct s → IsStruct rows ty s
struct_of rows ty n d s same def is = ap (def_at rows) (sym same) ∙ def ∙ ap Some is

pub refused_of : (rows : List Row) (ty : ℕ) (s : StructDef) (t : Data) (why : Why) → IsStruct rows ty s → struct_why s.form s.fields t ≡ Some (told why) → Refused rows ty t why
refused_of rows ty s t why is h = ap (option_and_then (λ (d : TypeDef). why_of d t)) is ∙ h

pub parts_of : (ty : ℕ) (p : Piece) (t : Data) (parts : StructParts) → IsLegible parts.fields.acc.now → IsStruct parts.fields.acc.now ty parts.fields.def.now → StandsFor parts.fields.acc.now p t
    → struct_why parts.fields.def.now.form parts.fields.def.now.fields t ≡ None → FormShows parts.fields.acc.now parts.fields.def.now.form parts.source t
    → (is_told parts ≡ true → IsSurveyed parts.fields.acc.now parts.fields.def.now.fields parts.source) → HasParts parts.fields.acc.now ty t parts
parts_of ty p t parts legible is stands none shows tells =
    let rows = parts.fields.acc.now in
    let s = parts.fields.def.now in
    let x = (layer_or_why (D.Struct s) (legible.clear.types (base rows ty) (D.Struct s) is) (legible.delims (base rows ty) (D.Struct s) is) t (piece_rises rows p t stands)).0 none in
    let y = then_from (struct_form s.form s.fields) (as_struct x.0) t x.1 in
    let layered = ap (option_and_then (λ (d : TypeDef). composed alone d (L.struct y.item))) is ∙ y.made in
    let plain : ArePartsOf rows ty t y.item (record parts { told = false }) = record { table = refl; struct = is; shows = shows; layered = layered; told = λ e. absurd (false-true e) } in
    (y.item, record { table = refl; struct = is; shows = shows; layered = layered; told = λ e. told_parts ty t y.item (record parts { told = false }) legible plain (tells e) })
  where
    false-true : false ≡ true → ⊥
    false-true e = absurd cc
