-- The form of the type that a layer fits.
use Rattle.std.proofs.Common.{◌≡◌, ℕ, List, slice_get, Bool, Option, Some, None, refl, ap, subst, inl, inr}
use Rattle.std.specs.Prelude.{ℤ, IsSomeAnd, IsUtf8}
use Rattle.std.specs.List.{AllByRecursion}
use Rattle.ild_data.proofs.Gets.{there_at}
use Rattle.ild_data.specs.Data.{Data}
use Rattle.ild_data.specs.Tree.{IsTree}
use Rattle.ild_data.specs.Bytes.{AreBytes}
use Rattle.ild_data.specs.Cid.{IsCid}
use Rattle.ild_data.specs.Integer.{IsInt}
use Rattle.ild_data.specs.declared.hamt_shape.HamtShape.{HamtShape}
use Rattle.ild_schema.specs.declared.number.Slot.{Slot}
use Rattle.ild_schema.specs.declared.number.TypeNo.{TypeNo}
use Rattle.ild_schema.specs.declared.def.TypeDef.{TypeDef}
use Rattle.ild_schema.specs.declared.def.TypeDef.TheVariants as D
use Rattle.ild_schema.specs.declared.def.MapForm.{MapForm}
use Rattle.ild_schema.specs.declared.def.MapForm.TheVariants as MF
use Rattle.ild_schema.specs.declared.def.UnitForm.{UnitForm}
use Rattle.ild_schema.specs.declared.def.StructDef.{StructDef}
use Rattle.ild_schema.specs.declared.def.UnionDef.{UnionDef}
use Rattle.ild_schema.specs.declared.def.EnumDef.{EnumDef}
use Rattle.ild_schema.specs.declared.def.EnumMember.{EnumMember}
use Rattle.ild_schema.specs.declared.def.Member.{Member}
use Rattle.ild_schema.specs.declared.row.Row.{Row}
use Rattle.ild_schema.specs.Value.{Value}
use Rattle.ild_typed.specs.Layer as L
use Rattle.ild_typed.specs.Layer.{Layer, as_map, as_hamt}
use Rattle.ild_schema.specs.Slots.{plainly}
use Rattle.ild_typed.specs.Layers.{IsNotNull, FieldsFit, EntriesFit, RootFits, MapFits, LayerFits}

pub member_there : {X : Type 0} (P : X → Type 0) (o : Option X) → IsSomeAnd o P → (x : X) × (o ≡ Some x) × P x
member_there P None h = absurd h
member_there P (Some x) h = (x, refl, h)

module _ (rows : List Row) (Of : Slot → Value → Type 0) where
  -- a layer that is no map fits no map
  pub no_map : (key : TypeNo) (value : Slot) (f : MapForm) (l : Layer Value) → as_map l ≡ None → as_hamt l ≡ None → MapFits Of rows key value f l → ⊥
  no_map key value MF.Map l a b h = subst (λ o. IsSomeAnd o (EntriesFit Of rows key value MF.Map)) a h
  no_map key value MF.ListPairs l a b h = subst (λ o. IsSomeAnd o (EntriesFit Of rows key value MF.ListPairs)) a h
  no_map key value (MF.StringPairs i e) l a b h = subst (λ o. IsSomeAnd o (EntriesFit Of rows key value (MF.StringPairs i e))) a h
  no_map key value (MF.Hamt p) l a b (inl h) = subst (λ o. IsSomeAnd o (EntriesFit Of rows key value (MF.Hamt p))) a h
  no_map key value (MF.Hamt p) l a b (inr h) = subst (λ o. IsSomeAnd o (RootFits Of rows p key value)) b h

  pub entries_there : (key : TypeNo) (value : Slot) (f : MapForm) (ps : List (List ℕ × Value)) → MapFits Of rows key value f (L.map ps) → EntriesFit Of rows key value f ps
  entries_there key value MF.Map ps h = h
  entries_there key value MF.ListPairs ps h = h
  entries_there key value (MF.StringPairs i e) ps h = h
  entries_there key value (MF.Hamt p) ps (inl h) = h
  entries_there key value (MF.Hamt p) ps (inr h) = absurd h

  pub there_entries : (key : TypeNo) (value : Slot) (f : MapForm) (ps : List (List ℕ × Value)) → EntriesFit Of rows key value f ps → MapFits Of rows key value f (L.map ps)
  there_entries key value MF.Map ps h = h
  there_entries key value MF.ListPairs ps h = h
  there_entries key value (MF.StringPairs i e) ps h = h
  there_entries key value (MF.Hamt p) ps h = inl h

  pub hamt_there : (key : TypeNo) (value : Slot) (f : MapForm) (d : Data) → MapFits Of rows key value f (L.hamt d) → (p : HamtShape) × (f ≡ MF.Hamt p) × RootFits Of rows p key value d
  hamt_there key value MF.Map d h = absurd h
  hamt_there key value MF.ListPairs d h = absurd h
  hamt_there key value (MF.StringPairs i e) d h = absurd h
  hamt_there key value (MF.Hamt p) d (inl h) = absurd h
  hamt_there key value (MF.Hamt p) d (inr h) = (p, refl, h)

  pub root_there : (p : HamtShape) (key : TypeNo) (value : Slot) (d : Data) → MapFits Of rows key value (MF.Hamt p) (L.hamt d) → RootFits Of rows p key value d
  root_there p key value d (inl h) = absurd h
  root_there p key value d (inr h) = h

  -- the form that a layer has

  pub boolean_form : (d : TypeDef) (b : Bool) → LayerFits Of rows d (L.boolean b) → d ≡ D.Bool
  boolean_form D.Bool b h = refl
  boolean_form (D.Map key key_at value at form) b h = absurd (no_map key value form (L.boolean b) refl refl h)
  boolean_form d b h = absurd h

  pub integer_form : (d : TypeDef) (n : ℤ) → LayerFits Of rows d (L.integer n) → (d ≡ D.Int) × IsInt n
  integer_form D.Int n h = (refl, h)
  integer_form (D.Map key key_at value at form) n h = absurd (no_map key value form (L.integer n) refl refl h)
  integer_form d n h = absurd h

  pub text_form : (d : TypeDef) (x : List ℕ) → LayerFits Of rows d (L.text x) → (d ≡ D.Text) × IsUtf8 x
  text_form D.Text x h = (refl, h)
  text_form (D.Map key key_at value at form) x h = absurd (no_map key value form (L.text x) refl refl h)
  text_form d x h = absurd h

  pub bytes_form : (d : TypeDef) (x : List ℕ) → LayerFits Of rows d (L.bytes x) → (d ≡ D.Bytes) × AreBytes x
  bytes_form D.Bytes x h = (refl, h)
  bytes_form (D.Map key key_at value at form) x h = absurd (no_map key value form (L.bytes x) refl refl h)
  bytes_form d x h = absurd h

  pub link_form : (d : TypeDef) (x : List ℕ) → LayerFits Of rows d (L.link x) → (target : TypeNo) × (d ≡ D.Link target) × IsCid x × AreBytes x
  link_form (D.Link target) x h = (target, refl, h.0, h.1)
  link_form (D.Map key key_at value at form) x h = absurd (no_map key value form (L.link x) refl refl h)
  link_form d x h = absurd h

  pub any_form : (d : TypeDef) (x : Data) → LayerFits Of rows d (L.any x) → (d ≡ D.Any) × IsTree x × IsNotNull x
  any_form D.Any x h = (refl, h.0, h.1)
  any_form (D.Map key key_at value at form) x h = absurd (no_map key value form (L.any x) refl refl h)
  any_form d x h = absurd h

  pub unit_form : (d : TypeDef) → LayerFits Of rows d L.unit → (f : UnitForm) × (d ≡ D.Unit f)
  unit_form (D.Unit form) h = (form, refl)
  unit_form (D.Map key key_at value at form) h = absurd (no_map key value form L.unit refl refl h)
  unit_form d h = absurd h

  pub enum_form : (d : TypeDef) (n : ℕ) → LayerFits Of rows d (L.enum n) → (e : EnumDef) × (m : EnumMember) × (d ≡ D.Enum e) × (slice_get e.members n ≡ Some m)
  enum_form (D.Enum e) n h = let g = there_at e.members n h in (e, g.0, refl, g.1)
  enum_form (D.Map key key_at value at form) n h = absurd (no_map key value form (L.enum n) refl refl h)
  enum_form d n h = absurd h

  pub list_form : (d : TypeDef) (vs : List Value) → LayerFits Of rows d (L.list vs) → (elem : Slot) × (place : ℕ) × (d ≡ D.List elem place) × AllByRecursion (Of elem) vs
  list_form (D.List elem at) vs h = (elem, at, refl, h)
  list_form (D.Map key key_at value at form) vs h = absurd (no_map key value form (L.list vs) refl refl h)
  list_form d vs h = absurd h

  pub struct_form : (d : TypeDef) (os : List (Option Value)) → LayerFits Of rows d (L.struct os) → (s : StructDef) × (d ≡ D.Struct s) × FieldsFit Of s.fields os
  struct_form (D.Struct s) os h = (s, refl, h)
  struct_form (D.Map key key_at value at form) os h = absurd (no_map key value form (L.struct os) refl refl h)
  struct_form d os h = absurd h

  pub union_form : (d : TypeDef) (n : ℕ) (v : Value) → LayerFits Of rows d (L.union n v) → (u : UnionDef) × (m : Member) × (d ≡ D.Union u) × (slice_get u.members n ≡ Some m) × Of (plainly m.ty) v
  union_form (D.Union u) n v h = let g = member_there (λ m. Of (plainly m.ty) v) (slice_get u.members n) h in (u, g.0, refl, g.1, g.2)
  union_form (D.Map key key_at value at form) n v h = absurd (no_map key value form (L.union n v) refl refl h)
  union_form d n v h = absurd h

  pub map_form : (d : TypeDef) (ps : List (List ℕ × Value)) → LayerFits Of rows d (L.map ps) → (key : TypeNo) × (key_at : ℕ) × (elem : Slot) × (place : ℕ) × (f : MapForm) × (d ≡ D.Map key key_at elem place f) × EntriesFit Of rows key elem f ps
  map_form (D.Map key key_at value at form) ps h = (key, key_at, value, at, form, refl, entries_there key value form ps h)
  map_form d ps h = absurd h

  pub hamt_form : (d : TypeDef) (x : Data) → LayerFits Of rows d (L.hamt x) → (key : TypeNo) × (key_at : ℕ) × (elem : Slot) × (place : ℕ) × (p : HamtShape) × (d ≡ D.Map key key_at elem place (MF.Hamt p)) × RootFits Of rows p key elem x
  hamt_form (D.Map key key_at value at form) x h = let r = hamt_there key value form x h in (key, key_at, value, at, r.0, ap (λ f. D.Map key key_at value at f) r.1, r.2)
  hamt_form d x h = absurd h
