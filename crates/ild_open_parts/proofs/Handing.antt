-- What stands for a field, by what is handed out of it.
use Rattle.std.proofs.Common.{◌≡◌, ℕ, List, Option, Some, None, true, refl, sym, ◌∙◌, ap, subst}
use Rattle.std.specs.Prelude.{option_and_then, slice_get}
use Rattle.std.proofs.lemmas.Option.{same_Some}
use Rattle.ild_cbor.specs.Nodes.{HasData}
use Rattle.ild_cbor.specs.declared.node.Node.{Node}
use Rattle.ild_cbor.specs.declared.piece.Piece.{Piece}
use Rattle.ild_data.specs.Data.{Data}
use Rattle.ild_layer_piece.specs.Answers.{Layered}
use Rattle.ild_layer_piece.specs.Pieces.{StandsFor}
use Rattle.ild_schema.specs.Kinds.{meant}
use Rattle.ild_schema.specs.Slots.{plainly}
use Rattle.ild_schema.specs.declared.def.Field.{Field}
use Rattle.ild_schema.specs.declared.def.StructDef.{StructDef}
use Rattle.ild_schema.specs.declared.def.TypeDef.{TypeDef}
use Rattle.ild_schema.specs.declared.def.TypeDef.TheVariants as D
use Rattle.ild_schema.specs.declared.def.UnionDef.{UnionDef}
use Rattle.ild_schema.specs.declared.number.TypeNo.{TypeNo}
use Rattle.ild_schema.specs.declared.row.Row.{Row}
use Rattle.ild_struct.specs.Parts.{HasParts, IsFieldOf, IsFieldPart}
use Rattle.ild_struct.specs.declared.parts.StructParts.{StructParts}
use Rattle.ild_struct.specs.declared.part.Part.{Part}
use Rattle.ild_struct.specs.declared.part.Part.TheVariants as P
use Rattle.ild_typed.specs.Composed.{composed}
use Rattle.ild_typed.specs.Fields.{is_implicit}
use Rattle.ild_typed.specs.Hamt.{alone}
use Rattle.ild_typed.specs.Layer as L
use Rattle.ild_typed.specs.Schema.{IsSchema}
use Rattle.ild_open_parts.proofs.Forming.{IsSameMember, one_member, one_struct}

module _ (rows : List Row) (f : Field) where
  pub absent_part : (o : Option Data) (part : Part) → part ≡ P.Absent → IsFieldPart rows f o part → o ≡ None
  absent_part o part is h = by o (subst (IsFieldPart rows f o) is h) where
    by : (q : Option Data) → IsFieldPart rows f q P.Absent → q ≡ None
    by None k = refl
    by (Some d) k = absurd k

  pub implicit_part : (o : Option Data) (part : Part) → part ≡ P.Implicit → IsFieldPart rows f o part → (d : Data) × (o ≡ Some d) × (is_implicit f.implicit d ≡ true)
  implicit_part o part is h = by o (subst (IsFieldPart rows f o) is h) where
    by : (q : Option Data) → IsFieldPart rows f q P.Implicit → (d : Data) × (q ≡ Some d) × (is_implicit f.implicit d ≡ true)
    by None k = absurd k
    by (Some d) k = (d, refl, k)

  pub null_part : (o : Option Data) (part : Part) (n : Node) → part ≡ P.Null n → IsFieldPart rows f o part → (d : Data) × (o ≡ Some d) × HasData n d
  null_part o part n is h = by o (subst (IsFieldPart rows f o) is h) where
    by : (q : Option Data) → IsFieldPart rows f q (P.Null n) → (d : Data) × (q ≡ Some d) × HasData n d
    by None k = absurd k
    by (Some d) k = (d, refl, k.0)

  pub held_part : (o : Option Data) (part : Part) (p : Piece) → part ≡ P.Held p → IsFieldPart rows f o part → (d : Data) × (o ≡ Some d) × StandsFor rows p d
  held_part o part p is h = by o (subst (IsFieldPart rows f o) is h) where
    by : (q : Option Data) → IsFieldPart rows f q (P.Held p) → (d : Data) × (q ≡ Some d) × StandsFor rows p d
    by None k = absurd k
    by (Some d) k = (d, refl, k.0)

-- what is handed out is of the field at a place
pub record FieldAt (rows : List Row) (f : Field) (os : List (Option Data)) (i : ℕ) (part : Part) : Type 0 where
  pub held : Option Data
  pub at : slice_get os i ≡ Some held
  pub is : IsFieldPart rows f held part

pub field_at : (rows : List Row) (gs fs : List Field) (os ps : List (Option Data)) (i : ℕ) (f : Field) (part : Part) → gs ≡ fs → os ≡ ps → slice_get fs i ≡ Some f → IsFieldOf rows gs os i part → FieldAt rows f ps i part
field_at rows gs fs os ps i f part same one known x =
    let there : Some f ≡ Some x.field = sym known ∙ ap (λ (hs : List Field). slice_get hs i) (sym same) ∙ x.there in
    record {
      held = x.held;
      at = ap (λ (qs : List (Option Data)). slice_get qs i) (sym one) ∙ x.at;
      is = subst (λ (g : Field). IsFieldPart rows g x.held part) (sym (same_Some f x.field there)) x.is;
    }

-- the parts that were found are those of the data
pub parts_same : (rows : List Row) → IsSchema rows → (ty : TypeNo) (def : StructDef) → meant rows ty.0 ≡ Some (D.Struct def) → (t : Data) (os : List (Option Data)) (parts : StructParts)
    → composed alone (D.Struct def) (L.struct os) ≡ Some t → (x : HasParts rows ty.0 t parts) → x.0 ≡ os
parts_same rows schema ty def is t os parts made x =
    one_struct rows schema (plainly ty) def is x.0 os t (ap (λ o. option_and_then (λ (c : TypeDef). composed alone c (L.struct x.0)) o) (sym is) ∙ x.1.layered) made

-- the member that was found is that of the data
pub member_same : (rows : List Row) → IsSchema rows → (ty : TypeNo) (def : UnionDef) → meant rows ty.0 ≡ Some (D.Union def) → (t : Data) (n k : ℕ) (c d : Data)
    → composed alone (D.Union def) (L.union n c) ≡ Some t → Layered rows ty.0 t (L.union k d) → IsSameMember n k c d
member_same rows schema ty def is t n k c d made layered =
    one_member rows schema (plainly ty) def is n k c d t made (ap (λ o. option_and_then (λ (q : TypeDef). composed alone q (L.union k d)) o) (sym is) ∙ layered)
