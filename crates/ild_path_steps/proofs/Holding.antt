-- What holds parts, by the form of its type, and what its data are.
use Rattle.std.proofs.Common.{◌≡◌, ℕ, List, Option, Some, refl, sym, ◌∙◌, ap, subst}
use Rattle.std.specs.Prelude.{option_and_then, slice_get}
use Rattle.std.proofs.lemmas.Option.{same_Some, none-some}
use Rattle.ild_data.proofs.Options.{chain_some}
use Rattle.ild_data.specs.Data as T
use Rattle.ild_data.specs.Data.{Data, items_of}
use Rattle.ild_path_changes.proofs.Datas.{data_of, each, each_pair}
use Rattle.ild_path_changes.proofs.Represented.{in_holders}
use Rattle.ild_path_changes.specs.Places.{each_field}
use Rattle.ild_schema.specs.Slots.{form_of, plainly}
use Rattle.ild_schema.specs.Value as V
use Rattle.ild_schema.specs.Value.{Value, Values, Pairs, Optionals, values_list, pairs_list, optionals_list}
use Rattle.ild_schema.specs.declared.def.MapForm.{MapForm}
use Rattle.ild_schema.specs.declared.def.MapForm.TheVariants as MF
use Rattle.ild_schema.specs.declared.def.Member.{Member}
use Rattle.ild_schema.specs.declared.def.StructDef.{StructDef}
use Rattle.ild_schema.specs.declared.def.TypeDef.{TypeDef}
use Rattle.ild_schema.specs.declared.def.TypeDef.TheVariants as D
use Rattle.ild_schema.specs.declared.def.UnionDef.{UnionDef}
use Rattle.ild_schema.specs.declared.number.Slot.{Slot}
use Rattle.ild_schema.specs.declared.number.TypeNo.{TypeNo}
use Rattle.ild_schema.specs.declared.row.Row.{Row}
use Rattle.ild_typed.specs.Composed.{any_data, composed, map_form, member_form, struct_form, union_form}
use Rattle.ild_typed.specs.Hamt.{alone}
use Rattle.ild_typed.specs.Holder.{Holder, any_holder, elements, entries, fields, holder_of, is_paired, list_holder, map_holder, member, nothing, struct_holder, union_holder}
use Rattle.ild_typed.specs.Layer as L
use Rattle.ild_typed.specs.Represented.{layered, represented}

-- a holder of the type d, which stands as t
pub data Held (rows : List Row) (d : TypeDef) (h : Holder) (t : Data) : Type 0 where
  of_fields : (r : StructDef) (os : List (Option Value)) (ds : List (Option Data)) → d ≡ D.Struct r → h ≡ fields r.fields os → each_field (represented alone rows) r.fields os ≡ Some ds → struct_form r.form r.fields ds ≡ Some t → Held rows d h t
  of_member : (u : UnionDef) (n : ℕ) (v : Value) (m : Member) (e : Data) → d ≡ D.Union u → h ≡ member u.members n v → slice_get u.members n ≡ Some m → represented alone rows (plainly m.ty) v ≡ Some e → member_form u.form e m ≡ Some t
      → Held rows d h t
  of_entries : (k : TypeNo) (k_at : ℕ) (elem : Slot) (at : ℕ) (form : MapForm) (ps : List (List ℕ × Value)) (es : List (List ℕ × Data)) → d ≡ D.Map k k_at elem at form → h ≡ entries k.0 elem (is_paired form) ps
      → each_pair (represented alone rows elem) ps ≡ Some es → map_form alone form (L.map es) ≡ Some t → Held rows d h t
  of_elements : (elem : Slot) (at : ℕ) (vs : List Value) (ds : List Data) → d ≡ D.List elem at → h ≡ elements elem vs → each (represented alone rows elem) vs ≡ Some ds → t ≡ T.list (items_of ds) → Held rows d h t
  of_any : d ≡ D.Any → h ≡ any_holder t → Held rows d h t
  of_nothing : (v : Value) → h ≡ nothing v → Held rows d h t

module _ (rows : List Row) (slot : Slot) (t : Data) where
  list_held : (d : TypeDef) (vs : Values) → data_of alone (Some d) (represented alone rows) slot (list_holder (Some d) vs) ≡ Some t → Held rows d (list_holder (Some d) vs) t
  list_held (D.List elem at) vs e =
      let x = chain_some (λ ds. Some (T.list (items_of ds))) (each (represented alone rows elem) (values_list vs)) t e in
      of_elements elem at (values_list vs) x.0 refl refl x.1 (sym (same_Some (T.list (items_of x.0)) t x.2))
  list_held d vs e = of_nothing (V.list vs) refl

  map_held : (d : TypeDef) (ps : Pairs) → data_of alone (Some d) (represented alone rows) slot (map_holder (Some d) ps) ≡ Some t → Held rows d (map_holder (Some d) ps) t
  map_held (D.Map k k_at elem at form) ps e =
      let x = chain_some (λ es. map_form alone form (L.map es)) (each_pair (represented alone rows elem) (pairs_list ps)) t e in
      of_entries k k_at elem at form (pairs_list ps) x.0 refl refl x.1 x.2
  map_held d ps e = of_nothing (V.map ps) refl

  struct_held : (d : TypeDef) (os : Optionals) → data_of alone (Some d) (represented alone rows) slot (struct_holder (Some d) os) ≡ Some t → Held rows d (struct_holder (Some d) os) t
  struct_held (D.Struct r) os e =
      let x = chain_some (λ ds. struct_form r.form r.fields ds) (each_field (represented alone rows) r.fields (optionals_list os)) t e in
      of_fields r (optionals_list os) x.0 refl refl x.1 x.2
  struct_held d os e = of_nothing (V.struct os) refl

  member_held : (u : UnionDef) (n : ℕ) (v : Value) → data_of alone (Some (D.Union u)) (represented alone rows) slot (member u.members n v) ≡ Some t → Held rows (D.Union u) (member u.members n v) t
  member_held u n v e =
      let x = chain_some (λ (m : Member). option_and_then (λ y. union_form u.form u.members (n, y)) (represented alone rows (plainly m.ty) v)) (slice_get u.members n) t e in
      let y = chain_some (λ z. union_form u.form u.members (n, z)) (represented alone rows (plainly (x.0).ty) v) t x.2 in
      of_member u n v x.0 y.0 refl refl x.1 y.1 (sym (ap (option_and_then (member_form u.form y.0)) x.1) ∙ y.2)

  union_held : (d : TypeDef) (n : ℕ) (v : Value) → data_of alone (Some d) (represented alone rows) slot (union_holder (Some d) n v) ≡ Some t → Held rows d (union_holder (Some d) n v) t
  union_held (D.Union u) n v e = member_held u n v e
  union_held d n v e = of_nothing (V.union n v) refl

  any_is : (y : Data) → any_data y ≡ Some t → y ≡ t
  any_is T.null e = absurd (none-some t e)
  any_is (T.boolean b) e = same_Some (T.boolean b) t e
  any_is (T.integer n) e = same_Some (T.integer n) t e
  any_is (T.text s) e = same_Some (T.text s) t e
  any_is (T.bytes s) e = same_Some (T.bytes s) t e
  any_is (T.list ds) e = same_Some (T.list ds) t e
  any_is (T.map ms) e = same_Some (T.map ms) t e
  any_is (T.link s) e = same_Some (T.link s) t e

  no_map : {A : Type 0} (form : MapForm) (y : Data) → map_form alone form (L.any y) ≡ Some t → A
  no_map MF.Map y e = absurd (none-some t e)
  no_map MF.ListPairs y e = absurd (none-some t e)
  no_map (MF.StringPairs inner entry) y e = absurd (none-some t e)
  no_map (MF.Hamt shape) y e = absurd (none-some t e)

  any_held : (d : TypeDef) (y : Data) → composed alone d (L.any y) ≡ Some t → Held rows d (any_holder y) t
  any_held D.Any y e = of_any refl (ap any_holder (any_is y e))
  any_held D.Bool y e = absurd (none-some t e)
  any_held D.Text y e = absurd (none-some t e)
  any_held D.Bytes y e = absurd (none-some t e)
  any_held D.Int y e = absurd (none-some t e)
  any_held (D.Link target) y e = absurd (none-some t e)
  any_held (D.Unit form) y e = absurd (none-some t e)
  any_held (D.List elem at) y e = absurd (none-some t e)
  any_held (D.Map k k_at elem at form) y e = no_map form y e
  any_held (D.Struct r) y e = absurd (none-some t e)
  any_held (D.Union u) y e = absurd (none-some t e)
  any_held (D.Enum m) y e = absurd (none-some t e)
  any_held (D.Copy target) y e = absurd (none-some t e)

  module _ (d : TypeDef) (known : form_of rows slot ≡ Some d) where
    pub held_by : (f : Value) → represented alone rows slot f ≡ Some t → Held rows d (holder_of rows slot f) t
    held_by (V.list vs) e =
        subst (λ F. Held rows d (list_holder F vs) t) (sym known)
        (list_held d vs (subst (λ F. data_of alone F (represented alone rows) slot (list_holder F vs) ≡ Some t) known (sym (in_holders alone rows slot (V.list vs)) ∙ e)))
    held_by (V.map ps) e =
        subst (λ F. Held rows d (map_holder F ps) t) (sym known)
        (map_held d ps (subst (λ F. data_of alone F (represented alone rows) slot (map_holder F ps) ≡ Some t) known (sym (in_holders alone rows slot (V.map ps)) ∙ e)))
    held_by (V.struct os) e =
        subst (λ F. Held rows d (struct_holder F os) t) (sym known)
        (struct_held d os (subst (λ F. data_of alone F (represented alone rows) slot (struct_holder F os) ≡ Some t) known (sym (in_holders alone rows slot (V.struct os)) ∙ e)))
    held_by (V.union n v) e =
        subst (λ F. Held rows d (union_holder F n v) t) (sym known)
        (union_held d n v (subst (λ F. data_of alone F (represented alone rows) slot (union_holder F n v) ≡ Some t) known (sym (in_holders alone rows slot (V.union n v)) ∙ e)))
    held_by (V.any y) e = any_held d y (sym (ap (λ F. layered alone F (Some (L.any y))) known) ∙ e)
    held_by V.null e = of_nothing V.null refl
    held_by (V.boolean b) e = of_nothing (V.boolean b) refl
    held_by (V.integer n) e = of_nothing (V.integer n) refl
    held_by (V.text s) e = of_nothing (V.text s) refl
    held_by (V.bytes s) e = of_nothing (V.bytes s) refl
    held_by (V.link s) e = of_nothing (V.link s) refl
    held_by (V.enum n) e = of_nothing (V.enum n) refl
    held_by V.unit e = of_nothing V.unit refl
    held_by (V.hamt y) e = of_nothing (V.hamt y) refl
