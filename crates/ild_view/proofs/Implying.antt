-- The body of a field that is left out, since it has its implicit value.
use Rattle.std.proofs.Common.{◌≡◌, List, true, false, Option, Some, None, refl, sym, ◌∙◌, ap, subst}
use Rattle.std.specs.Prelude.{◌↔◌}
use Rattle.std.specs.Borrow.{Bor}
use Rattle.std.proofs.lemmas.Option.{none-some}
use Rattle.ild_cbor.specs.declared.node.Node.{Node}
use Rattle.ild_cbor.specs.declared.piece.Piece.{Piece}
use Rattle.ild_cbor.specs.declared.piece.Piece.TheVariants as Q
use Rattle.ild_data.specs.Data as T
use Rattle.ild_data.specs.Data.{Data}
use Rattle.ild_schema.specs.declared.def.Field.{Field}
use Rattle.ild_schema.specs.declared.def.Scalar.{Scalar}
use Rattle.ild_schema.specs.declared.def.Scalar.TheVariants as C
use Rattle.ild_schema.specs.declared.row.Row.{Row}
use Rattle.ild_struct.specs.Parts.{IsFieldPart}
use Rattle.ild_struct.specs.declared.part.Part.{Part}
use Rattle.ild_struct.specs.declared.part.Part.TheVariants as P
use Rattle.ild_typed.specs.Fields.{is_implicit}
use Rattle.ild_view.specs.Itself.{Embodies}
use Rattle.ild_view.specs.View.{piece_in}
use Rattle.ild_view.specs.declared.body.Body.TheVariants as B

pub implicit_embodied : (rows : List Row) (f : Field) (o : Option Data) (part : Part) (scalar : Bor Scalar) → part ≡ P.Implicit → f.implicit ≡ Some scalar.now → IsFieldPart rows f o part → Embodies rows o (Some (B.Implicit scalar))
implicit_embodied rows f o part scalar left has h = by o (subst (IsFieldPart rows f o) left h) where
  by : (q : Option Data) → IsFieldPart rows f q P.Implicit → Embodies rows q (Some (B.Implicit scalar))
  by None x = absurd x
  by (Some d) x = subst (λ i. is_implicit i d ≡ true) has x

-- ---- a body of no piece of the block, of each part

pub implicit_left : (rows : List Row) (f : Field) (d : Data) (part : Part) → part ≡ P.Implicit → IsFieldPart rows f (Some d) part → (◌≡◌ {A = Option Piece} None None) ↔ (is_implicit f.implicit d ≡ true)
implicit_left rows f d part left h = (λ none. subst (IsFieldPart rows f (Some d)) left h, λ is. refl)

null_written : (o : Option Scalar) → is_implicit o T.null ≡ true → ⊥
null_written None e = cc
null_written (Some (C.Bool b)) e = cc
null_written (Some (C.Int n)) e = cc
null_written (Some (C.Text s)) e = cc

pub null_there : (rows : List Row) (f : Field) (d : Data) (part : Part) (node : Node) → part ≡ P.Null node → IsFieldPart rows f (Some d) part → (piece_in (B.Held (Q.Node node)) ≡ None) ↔ (is_implicit f.implicit d ≡ true)
null_there rows f d part node is h =
    let x = subst (IsFieldPart rows f (Some d)) is h in
    (λ none. absurd (none-some (Q.Node node) (sym none)), λ same. absurd (null_written f.implicit (ap (is_implicit f.implicit) (sym x.1) ∙ same)))

pub held_there : (rows : List Row) (f : Field) (d : Data) (part : Part) (piece : Piece) → part ≡ P.Held piece → IsFieldPart rows f (Some d) part → (piece_in (B.Held piece) ≡ None) ↔ (is_implicit f.implicit d ≡ true)
held_there rows f d part piece is h =
    let x = subst (IsFieldPart rows f (Some d)) is h in
    (λ none. absurd (none-some piece (sym none)), λ same. absurd (let e : false ≡ true = sym x.2 ∙ same in cc))
