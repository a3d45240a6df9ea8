-- Data of types that have no parts, and the type that was found.
use Rattle.std.proofs.Common.{◌≡◌, ℕ, List, [], Some, None, refl, sym, ◌∙◌, ap, arith}
use Rattle.std.proofs.lemmas.Option.{none-some, same_Some}
use Rattle.ild_data.specs.Data as T
use Rattle.ild_data.specs.Data.{Data}
use Rattle.ild_cbor.specs.Scalar.{kind_of}
use Rattle.ild_cbor.specs.declared.kind.Kind.{Kind}
use Rattle.ild_cbor.specs.declared.kind.Kind.TheVariants as K
use Rattle.ild_schema.specs.Copies.{base}
use Rattle.ild_schema.specs.Kinds.{meant}
use Rattle.ild_schema.specs.Rows.{def_at}
use Rattle.ild_schema.specs.declared.def.TypeDef.{TypeDef}
use Rattle.ild_schema.specs.declared.def.TypeDef.TheVariants as D
use Rattle.ild_schema.specs.declared.number.TypeNo.{TypeNo}
use Rattle.ild_schema.specs.declared.row.Row.{Row}
use Rattle.ild_typed.specs.Layer as L
use Rattle.ild_typed.specs.Pieces.{why_at}
use Rattle.ild_typed.specs.Refused.{AreParts}
use Rattle.ild_layer_fields.specs.Told.{scalar_kind}
use Rattle.ild_layer_parts.proofs.Asking.{none_at}

abbrev pub Plain : ℕ → TypeDef → Data → Type 0
Plain room d t = (why_at room d t ≡ None) × AreParts d t []

pub bool_plain : (room : ℕ) (t : Data) → kind_of t ≡ K.Bool → Plain room D.Bool t
bool_plain room (T.boolean b) e = (none_at room D.Bool (T.boolean b) refl refl (omega arith) refl, (L.boolean b, refl, refl))
bool_plain room t e = absurd cc

pub text_plain : (room : ℕ) (t : Data) → kind_of t ≡ K.Text → Plain room D.Text t
text_plain room (T.text s) e = (none_at room D.Text (T.text s) refl refl (omega arith) refl, (L.text s, refl, refl))
text_plain room t e = absurd cc

bytes_plain : (room : ℕ) (t : Data) → kind_of t ≡ K.Bytes → Plain room D.Bytes t
bytes_plain room (T.bytes s) e = (none_at room D.Bytes (T.bytes s) refl refl (omega arith) refl, (L.bytes s, refl, refl))
bytes_plain room t e = absurd cc

pub int_plain : (room : ℕ) (t : Data) → kind_of t ≡ K.Int → Plain room D.Int t
int_plain room (T.integer n) e = (none_at room D.Int (T.integer n) refl refl (omega arith) refl, (L.integer n, refl, refl))
int_plain room t e = absurd cc

link_plain : (room : ℕ) (target : TypeNo) (t : Data) → kind_of t ≡ K.Link → Plain room (D.Link target) t
link_plain room target (T.link s) e = (none_at room (D.Link target) (T.link s) refl refl (omega arith) refl, (L.link s, refl, refl))
link_plain room target t e = absurd cc

pub scalar_plain : (room : ℕ) (d : TypeDef) (t : Data) (k : Kind) → scalar_kind d ≡ Some k → kind_of t ≡ k → Plain room d t
scalar_plain room D.Bool t k e is = bool_plain room t (is ∙ sym (same_Some K.Bool k e))
scalar_plain room D.Text t k e is = text_plain room t (is ∙ sym (same_Some K.Text k e))
scalar_plain room D.Bytes t k e is = bytes_plain room t (is ∙ sym (same_Some K.Bytes k e))
scalar_plain room D.Int t k e is = int_plain room t (is ∙ sym (same_Some K.Int k e))
scalar_plain room (D.Link target) t k e is = link_plain room target t (is ∙ sym (same_Some K.Link k e))
scalar_plain room d t k e is = absurd (none-some k e)

-- the type that was found in the table
pub type_is : (rows : List Row) (ty n : ℕ) (found known d : TypeDef) → n ≡ base rows ty → def_at rows n ≡ Some found → found ≡ known → meant rows ty ≡ Some d → d ≡ known
type_is rows ty n found known d at there same is = sym (same_Some found d (sym there ∙ ap (def_at rows) at ∙ is)) ∙ same
