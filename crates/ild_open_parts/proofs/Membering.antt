-- The member of a union is that of the data.
use Rattle.std.proofs.Common.{◌≡◌, ℕ, ◌<◌, List, length, get_or, Some, sym, ◌∙◌, ap, subst}
use Rattle.std.specs.Prelude.{slice_get}
use Rattle.std.proofs.lemmas.Option.{same_Some}
use Rattle.ild_cbor.specs.declared.piece.Piece.{Piece}
use Rattle.ild_data.proofs.Gets.{got_at}
use Rattle.ild_data.specs.Data.{Data}
use Rattle.ild_layer_piece.specs.Answers.{Layered}
use Rattle.ild_layer_piece.specs.Pieces.{StandsFor}
use Rattle.ild_schema.specs.Kinds.{meant}
use Rattle.ild_schema.specs.Slots.{plainly}
use Rattle.ild_schema.specs.declared.def.Member.{Member}
use Rattle.ild_schema.specs.declared.def.TypeDef.TheVariants as D
use Rattle.ild_schema.specs.declared.def.UnionDef.{UnionDef}
use Rattle.ild_schema.specs.declared.number.TypeNo.{TypeNo}
use Rattle.ild_schema.specs.declared.row.Row.{Row}
use Rattle.ild_typed.specs.Composed.{composed}
use Rattle.ild_typed.specs.Hamt.{alone}
use Rattle.ild_typed.specs.Layer as L
use Rattle.ild_typed.specs.Schema.{IsSchema}
use Rattle.ild_open_parts.specs.Member.{ShowsMember}
use Rattle.ild_open_parts.proofs.Handing.{member_same}

pub got : {A : Type 0} (xs ys : List A) (i : ℕ) (x : A) → xs ≡ ys → i < length xs → x ≡ get_or xs i x → slice_get ys i ≡ Some x
got xs ys i x same h e = subst (λ zs. slice_get zs i ≡ Some x) same (got_at xs i x h e)

module _ (rows : List Row) (schema : IsSchema rows) (ty : TypeNo) (def : UnionDef) (known : meant rows ty.0 ≡ Some (D.Union def)) where
  pub shows_member : (t : Data) (n : ℕ) (part : Piece) (q : Member) → slice_get def.members n ≡ Some q → (d : Data) × StandsFor rows part d × Layered rows ty.0 t (L.union n d)
      → (k : ℕ) (member : Member) (c : Data) → slice_get def.members k ≡ Some member → composed alone (D.Union def) (L.union k c) ≡ Some t → ShowsMember rows (n, plainly q.ty, part) k member c
  shows_member t n part q there x k member c there' made =
      let own = member_same rows schema ty def known t k n c x.0 made x.2 in
      let same : member ≡ q = same_Some member q (sym there' ∙ ap (λ i. slice_get def.members i) own.number ∙ there) in
      record { number = own.number; slot = ap (λ (p : Member). plainly p.ty) same; stands = subst (StandsFor rows part) (sym own.tree) x.1 }
