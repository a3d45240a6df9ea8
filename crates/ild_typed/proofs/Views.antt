-- What a check of one block rests on: data have a front that fits where their layer is there, the room suffices and each
-- part has a front that fits. A step of the check is one of these lemmas; its recursion is that on the room.
use Rattle.ild_typed.proofs.PartData.{values_data, member_data}
use Rattle.std.proofs.Common.{◌≡◌, ℕ, zero, suc, ◌-◌, ◌≤◌, List, [], ◌∷◌, false, Option, Some, None, option_map, refl, sym, ◌∙◌, ap, subst, arith, inl, inr}
use Rattle.std.specs.Prelude.{IsTrue, IsSomeAnd, option_and_then, slice_get}
use Rattle.std.specs.List.{AllByRecursion}
use Rattle.std.proofs.lemmas.Option.{same_Some}
use Rattle.ild_data.specs.Data as T
use Rattle.ild_data.specs.Data.{Data}
use Rattle.ild_data.specs.declared.hamt_shape.HamtShape.{HamtShape}
use Rattle.ild_schema.specs.declared.number.Slot.{Slot}
use Rattle.ild_schema.specs.declared.def.TypeDef.{TypeDef}
use Rattle.ild_schema.specs.declared.def.TypeDef.TheVariants as D
use Rattle.ild_schema.specs.declared.def.StructDef.{StructDef}
use Rattle.ild_schema.specs.declared.def.UnionDef.{UnionDef}
use Rattle.ild_schema.specs.declared.def.Member.{Member}
use Rattle.ild_schema.specs.declared.def.MapForm.TheVariants as MF
use Rattle.ild_schema.specs.declared.def.KindWord.TheVariants as K
use Rattle.ild_schema.specs.declared.def.StructForm.{StructForm}
use Rattle.ild_schema.specs.declared.def.StructForm.TheVariants as S
use Rattle.ild_schema.specs.declared.number.TypeNo.{TypeNo}
use Rattle.ild_schema.specs.DataKinds.{struct_kind, same_kind}
use Rattle.ild_schema.specs.Slots.{plainly, form_of}
use Rattle.ild_typed.specs.Slots.{slot_of, element_of, fields_of, member_of}
use Rattle.ild_schema.specs.declared.def.Field.{Field}
use Rattle.ild_schema.specs.declared.row.Row.{Row}
use Rattle.ild_schema.specs.Copies.{base}
use Rattle.ild_schema.specs.Value as V
use Rattle.ild_schema.specs.Value.{Value, Values, Optionals, values_list, optionals_list}
use Rattle.ild_typed.specs.Layer as L
use Rattle.ild_typed.specs.Layer.{Layer}
use Rattle.ild_typed.specs.Strings.{cons_both}
use Rattle.ild_typed.specs.Composed.{composed, struct_form, union_form}
use Rattle.ild_typed.specs.Hamt.{alone}
use Rattle.ild_typed.specs.Represented.{layered, represented, represented_values, represented_fields}
use Rattle.ild_typed.specs.Levels.{struct_levels}
use Rattle.ild_typed.specs.Fits.{FormFits, ValueFits, FitsPast}
use Rattle.ild_typed.specs.Layers.{RepresentsSome, RootFits, MapFits, FieldsFit}
use Rattle.ild_schema.specs.Clear.{IsClear, IsSafe}
use Rattle.ild_typed.proofs.Basics.{map_from}
use Rattle.ild_typed.proofs.Entries.{both_from}
use Rattle.ild_typed.proofs.OfKinds.{composed_kind, alone_kind, no_null}
use Rattle.ild_typed.proofs.OneValue.{Way, as_null, as_layer, way_of, layer_data, list_value, list_in, struct_value, struct_in, union_value, union_in, unsafe, scalar_of, scalar_value}
use Rattle.ild_typed.proofs.Composing.{composed_tells, alone_tells}

module _ (rows : List Row) (below : Slot → Value → Type 0) where
  -- ---- the elements of a list

  abbrev pub Elements : Slot → List Data → Type 0
  Elements s ds = AllByRecursion (RepresentsSome below rows s) ds

  pub record ValuesOf (s : Slot) (ds : List Data) : Type 0 where
    pub values : Values
    pub fit : AllByRecursion (below s) (values_list values)
    pub there : represented_values alone rows s values ≡ Some ds

  pub values_of_elements : (s : Slot) (ds : List Data) → Elements s ds → ValuesOf s ds
  values_of_elements s [] all = record { values = V.no_values; fit = tt; there = refl }
  values_of_elements s (d ∷ ds) all =
      let rest = values_of_elements s ds all.1 in
      record {
        values = V.value all.0.0 rest.values;
        fit = (all.0.1, rest.fit);
        there = ap (λ o. cons_both o (represented_values alone rows s rest.values)) all.0.2 ∙ ap (cons_both (Some d)) rest.there;
      }

  pub elements_of_values : (s : Slot) (vs : Values) (ds : List Data) → AllByRecursion (below s) (values_list vs) → represented_values alone rows s vs ≡ Some ds → Elements s ds
  elements_of_values s V.no_values ds fit e = subst (Elements s) (same_Some [] ds e) tt
  elements_of_values s (V.value v vs) ds fit e =
      let b = both_from (represented alone rows s v) (represented_values alone rows s vs) ds e in
      subst (Elements s) b.all ((v, fit.0, b.first), elements_of_values s vs b.items fit.1 b.rest)

  -- ---- the fields of a struct

  abbrev pub Fields : List Field → List (Option Data) → Type 0
  Fields [] [] = Unit {0}
  Fields [] (o ∷ os) = ⊥
  Fields (f ∷ fs) [] = ⊥
  Fields (f ∷ fs) (Some d ∷ os) = RepresentsSome below rows f.slot d × Fields fs os
  Fields (f ∷ fs) (None ∷ os) = IsTrue f.optional × Fields fs os

  pub record FieldsOf (fs : List Field) (ds : List (Option Data)) : Type 0 where
    pub fields : Optionals
    pub fit : FieldsFit below fs (optionals_list fields)
    pub there : represented_fields alone rows fs fields ≡ Some ds

  pub fields_of_data : (fs : List Field) (ds : List (Option Data)) → Fields fs ds → FieldsOf fs ds
  fields_of_data [] [] all = record { fields = V.no_optionals; fit = tt; there = refl }
  fields_of_data [] (d ∷ ds) all = absurd all
  fields_of_data (f ∷ fs) [] all = absurd all
  fields_of_data (f ∷ fs) (Some d ∷ ds) all =
      let rest = fields_of_data fs ds all.1 in
      record {
        fields = V.present all.0.0 rest.fields;
        fit = (all.0.1, rest.fit);
        there = ap (λ o. cons_both (option_map Some o) (represented_fields alone rows fs rest.fields)) all.0.2 ∙ ap (cons_both (Some (Some d))) rest.there;
      }
  fields_of_data (f ∷ fs) (None ∷ ds) all =
      let rest = fields_of_data fs ds all.1 in
      record { fields = V.absent rest.fields; fit = (all.0, rest.fit); there = ap (option_map (λ xs. None ∷ xs)) rest.there }

  pub data_of_fields : (fs : List Field) (os : Optionals) (ds : List (Option Data)) → FieldsFit below fs (optionals_list os) → represented_fields alone rows fs os ≡ Some ds → Fields fs ds
  data_of_fields [] V.no_optionals ds fit e = subst (Fields []) (same_Some [] ds e) tt
  data_of_fields [] (V.absent os) ds fit e = absurd fit
  data_of_fields [] (V.present v os) ds fit e = absurd fit
  data_of_fields (f ∷ fs) V.no_optionals ds fit e = absurd fit
  data_of_fields (f ∷ fs) (V.absent os) ds fit e =
      let b = map_from (λ xs. None ∷ xs) (represented_fields alone rows fs os) ds e in
      subst (Fields (f ∷ fs)) (same_Some (None ∷ b.item) ds b.made) (fit.0, data_of_fields fs os b.item fit.1 b.there)
  data_of_fields (f ∷ fs) (V.present v os) ds fit e =
      let b = both_from (option_map Some (represented alone rows f.slot v)) (represented_fields alone rows fs os) ds e in
      let x = map_from Some (represented alone rows f.slot v) b.item b.first in
      subst (Fields (f ∷ fs)) (ap (λ o. o ∷ b.items) (same_Some (Some x.item) b.item x.made) ∙ b.all) ((v, fit.0, x.there), data_of_fields fs os b.items fit.1 b.rest)

-- ---- a step

one_room : (room : ℕ) → 1 ≤ suc room
one_room room = omega arith

struct_never : (form : StructForm) → same_kind (struct_kind form) K.Null ≡ false
struct_never S.Map = refl
struct_never S.Tuple = refl
struct_never S.ListPairs = refl
struct_never (S.StringPairs inner entry) = refl
struct_never (S.StringJoin delim) = refl

module _ (rows : List Row) (clear : IsClear rows) (room : ℕ) where
  -- a struct whose layer the data are: it has a front that fits where its fields have
  pub struct_shows : (s : Slot) (st : StructDef) (t : Data) (ds : List (Option Data)) → form_of rows s ≡ Some (D.Struct st) → struct_form st.form st.fields ds ≡ Some t
      → struct_levels st.form ≤ suc room → Fields rows (FitsPast rows room (struct_levels st.form - 1)) st.fields ds → RepresentsSome (FitsPast rows (suc room) zero) rows s t
  unfolding FitsPast
  struct_shows s st t ds is made enough all =
      let x = fields_of_data rows (FitsPast rows room (struct_levels st.form - 1)) st.fields ds all in (
        V.struct x.fields,
        subst (λ o. IsSomeAnd o (FormFits rows (suc room) (FitsPast rows room) (V.struct x.fields))) (sym is) (enough, x.fit),
        ap (λ o. layered alone o (option_map L.struct (represented_fields alone rows (fields_of o) x.fields))) is
            ∙ ap (λ o. option_and_then (composed alone (D.Struct st)) (option_map L.struct o)) x.there ∙ made,
      )

  -- and only there
  pub struct_shown : (s : Slot) (st : StructDef) (t : Data) (ds : List (Option Data)) → form_of rows s ≡ Some (D.Struct st) → struct_form st.form st.fields ds ≡ Some t
      → RepresentsSome (FitsPast rows (suc room) zero) rows s t → (struct_levels st.form ≤ suc room) × Fields rows (FitsPast rows room (struct_levels st.form - 1)) st.fields ds
  unfolding FitsPast
  struct_shown s st t ds is made (v, fits, shows) = by v fits (way_of alone rows s v t shows) where
    by : (v : Value) → ValueFits rows (suc room) (FitsPast rows room) s v → Way alone rows s v t
        → (struct_levels st.form ≤ suc room) × Fields rows (FitsPast rows room (struct_levels st.form - 1)) st.fields ds
    by v fits (as_null v_null nullable is_null) =
        absurd (no_null (D.Struct st) (struct_never st.form) (L.struct ds) (made ∙ ap Some is_null))
    by v fits (as_layer d l known there composes) =
        let form : D.Struct st ≡ d = same_Some (D.Struct st) d (sym is ∙ known) in
        let layer : l ≡ L.struct ds = composed_tells alone alone_tells (D.Struct st) (clear.types (base rows s.ty.0) (D.Struct st) is) l (L.struct ds) t (ap (λ c. composed alone c l) form ∙ composes) made in
        let x = struct_value alone rows (Some (D.Struct st)) v ds (ap (λ c. struct_in (layer_data alone rows (Some c) v)) form ∙ ap struct_in there ∙ ap (λ c. struct_in (Some c)) layer) in
        let P : Value → Type 0 = λ w. ValueFits rows (suc room) (FitsPast rows room) s w in
        let Q : Option TypeDef → Type 0 = λ o. IsSomeAnd o (FormFits rows (suc room) (FitsPast rows room) (V.struct x.items)) in
        let f : FormFits rows (suc room) (FitsPast rows room) (V.struct x.items) (D.Struct st) = subst Q is (subst P x.is fits) in
        (f.0, data_of_fields rows (FitsPast rows room (struct_levels st.form - 1)) st.fields x.items ds f.1 x.there)

  -- a list has a front that fits where its elements have
  pub list_shows : (s elem : Slot) (place : ℕ) (ds : List Data) → form_of rows s ≡ Some (D.List elem place)
      → Elements rows (FitsPast rows room zero) elem ds → RepresentsSome (FitsPast rows (suc room) zero) rows s (T.list (T.items_of ds))
  unfolding FitsPast
  list_shows s elem place ds is all =
      let x = values_of_elements rows (FitsPast rows room zero) elem ds all in (
        V.list x.values,
        subst (λ o. IsSomeAnd o (FormFits rows (suc room) (FitsPast rows room) (V.list x.values))) (sym is) (one_room room, x.fit),
        ap (λ o. layered alone o (option_map L.list (values_data alone rows (element_of o) x.values))) is
            ∙ ap (λ o. option_and_then (composed alone (D.List elem place)) (option_map L.list o)) x.there,
      )

  -- and only there
  pub list_shown : (s elem : Slot) (place : ℕ) (ds : List Data) → form_of rows s ≡ Some (D.List elem place)
      → RepresentsSome (FitsPast rows (suc room) zero) rows s (T.list (T.items_of ds)) → Elements rows (FitsPast rows room zero) elem ds
  unfolding FitsPast
  list_shown s elem place ds is (v, fits, shows) = by v fits (way_of alone rows s v (T.list (T.items_of ds)) shows) where
    by : (v : Value) → ValueFits rows (suc room) (FitsPast rows room) s v → Way alone rows s v (T.list (T.items_of ds)) → Elements rows (FitsPast rows room zero) elem ds
    by v fits (as_null v_null nullable is_null) =
        absurd (no_null (D.List elem place) refl (L.list ds) (ap Some is_null))
    by v fits (as_layer d l known there composes) =
        let form : D.List elem place ≡ d = same_Some (D.List elem place) d (sym is ∙ known) in
        let layer : l ≡ L.list ds = composed_tells alone alone_tells (D.List elem place) tt l (L.list ds) (T.list (T.items_of ds)) (ap (λ c. composed alone c l) form ∙ composes) refl in
        let x = list_value alone rows (Some (D.List elem place)) v ds (ap (λ c. list_in (layer_data alone rows (Some c) v)) form ∙ ap list_in there ∙ ap (λ c. list_in (Some c)) layer) in
        let P : Value → Type 0 = λ w. ValueFits rows (suc room) (FitsPast rows room) s w in
        let Q : Option TypeDef → Type 0 = λ o. IsSomeAnd o (FormFits rows (suc room) (FitsPast rows room) (V.list x.items)) in
        let f : FormFits rows (suc room) (FitsPast rows room) (V.list x.items) (D.List elem place) = subst Q is (subst P x.is fits) in
        elements_of_values rows (FitsPast rows room zero) elem x.items ds f.1 x.there

  -- a union has a front that fits where its member has
  pub union_shows : (s : Slot) (u : UnionDef) (n : ℕ) (m : Member) (c t : Data) → form_of rows s ≡ Some (D.Union u) → slice_get u.members n ≡ Some m
      → union_form u.form u.members (n, c) ≡ Some t → RepresentsSome (FitsPast rows room zero) rows (plainly m.ty) c → RepresentsSome (FitsPast rows (suc room) zero) rows s t
  unfolding FitsPast
  union_shows s u n m c t is member made (w, fits, shows) = (
    V.union n w,
    subst (λ o. IsSomeAnd o (FormFits rows (suc room) (FitsPast rows room) (V.union n w))) (sym is)
        (one_room room, subst (λ o. IsSomeAnd o (λ k. FitsPast rows room zero (plainly k.ty) w)) (sym member) fits),
    ap (λ o. layered alone o (option_map (L.union n) (member_data alone rows (member_of o n) w))) is
        ∙ ap (λ o. option_and_then (composed alone (D.Union u)) (option_map (L.union n) (member_data alone rows (option_map slot_of o) w))) member
        ∙ ap (λ o. option_and_then (composed alone (D.Union u)) (option_map (L.union n) o)) shows ∙ made,
  )

  -- and only there
  pub union_shown : (s : Slot) (u : UnionDef) (n : ℕ) (m : Member) (c t : Data) → IsSafe rows s → form_of rows s ≡ Some (D.Union u) → slice_get u.members n ≡ Some m
      → union_form u.form u.members (n, c) ≡ Some t → RepresentsSome (FitsPast rows (suc room) zero) rows s t → RepresentsSome (FitsPast rows room zero) rows (plainly m.ty) c
  unfolding FitsPast
  union_shown s u n m c t safe is member made (v, fits, shows) = by v fits (way_of alone rows s v t shows) where
    by : (v : Value) → ValueFits rows (suc room) (FitsPast rows room) s v → Way alone rows s v t → RepresentsSome (FitsPast rows room zero) rows (plainly m.ty) c
    by v fits (as_null v_null nullable is_null) =
        absurd (unsafe rows s safe nullable (D.Union u) is (composed_kind alone alone_kind (D.Union u) (L.union n c) T.null (made ∙ ap Some is_null)))
    by v fits (as_layer d l known there composes) =
        let form : D.Union u ≡ d = same_Some (D.Union u) d (sym is ∙ known) in
        let layer : l ≡ L.union n c = composed_tells alone alone_tells (D.Union u) (clear.types (base rows s.ty.0) (D.Union u) is) l (L.union n c) t (ap (λ c. composed alone c l) form ∙ composes) made in
        let x = union_value alone rows (Some (D.Union u)) v (n, c) (ap (λ c. union_in (layer_data alone rows (Some c) v)) form ∙ ap union_in there ∙ ap (λ c. union_in (Some c)) layer) in
        let P : Value → Type 0 = λ w. ValueFits rows (suc room) (FitsPast rows room) s w in
        let Q : Option TypeDef → Type 0 = λ o. IsSomeAnd o (FormFits rows (suc room) (FitsPast rows room) (V.union n x.part)) in
        let f : FormFits rows (suc room) (FitsPast rows room) (V.union n x.part) (D.Union u) = subst Q is (subst P x.is fits) in
        let part : FitsPast rows room zero (plainly m.ty) x.part = subst (λ o. IsSomeAnd o (λ k. FitsPast rows room zero (plainly k.ty) x.part)) member f.1 in
        (x.part, part, ap (λ o. member_data alone rows (option_map slot_of o) x.part) (sym member) ∙ x.there)

  -- a HAMT has a front that fits where the entries in the block of its root have
  pub hamt_shows : (s : Slot) (p : HamtShape) (key : TypeNo) (key_at : ℕ) (value : Slot) (place : ℕ) (ms : T.Members) → form_of rows s ≡ Some (D.Map key key_at value place (MF.Hamt p))
      → 5 ≤ suc room → RootFits (FitsPast rows room 4) rows p key value (T.map ms) → RepresentsSome (FitsPast rows (suc room) zero) rows s (T.map ms)
  unfolding FitsPast
  hamt_shows s p key key_at value place ms is enough root = (
    V.hamt (T.map ms),
    subst (λ o. IsSomeAnd o (FormFits rows (suc room) (FitsPast rows room) (V.hamt (T.map ms)))) (sym is) (enough, inr root),
    ap (λ o. layered alone o (Some (L.hamt (T.map ms)))) is,
  )

  -- and only there
  pub hamt_shown : (s : Slot) (p : HamtShape) (key : TypeNo) (key_at : ℕ) (value : Slot) (place : ℕ) (ms : T.Members) → form_of rows s ≡ Some (D.Map key key_at value place (MF.Hamt p))
      → RepresentsSome (FitsPast rows (suc room) zero) rows s (T.map ms) → (5 ≤ suc room) × RootFits (FitsPast rows room 4) rows p key value (T.map ms)
  unfolding FitsPast
  hamt_shown s p key key_at value place ms is (v, fits, shows) = by v fits (way_of alone rows s v (T.map ms) shows) where
    root : MapFits (FitsPast rows room 4) rows key value (MF.Hamt p) (L.hamt (T.map ms)) → RootFits (FitsPast rows room 4) rows p key value (T.map ms)
    root (inl h) = absurd h
    root (inr h) = h

    by : (v : Value) → ValueFits rows (suc room) (FitsPast rows room) s v → Way alone rows s v (T.map ms) → (5 ≤ suc room) × RootFits (FitsPast rows room 4) rows p key value (T.map ms)
    by v fits (as_null v_null nullable is_null) = let own : T.map ms ≡ T.null = is_null in absurd cc
    by v fits (as_layer d l known there composes) =
        let own : TypeDef = D.Map key key_at value place (MF.Hamt p) in
        let same : own ≡ d = same_Some own d (sym is ∙ known) in
        let layer : l ≡ L.hamt (T.map ms) = composed_tells alone alone_tells own tt l (L.hamt (T.map ms)) (T.map ms) (ap (λ c. composed alone c l) same ∙ composes) refl in
        let v_is : v ≡ V.hamt (T.map ms) = scalar_value alone rows (Some d) v (V.hamt (T.map ms)) (ap (option_and_then scalar_of) (there ∙ ap Some layer)) in
        let P : Value → Type 0 = λ w. ValueFits rows (suc room) (FitsPast rows room) s w in
        let Q : Option TypeDef → Type 0 = λ o. IsSomeAnd o (FormFits rows (suc room) (FitsPast rows room) (V.hamt (T.map ms))) in
        let f : FormFits rows (suc room) (FitsPast rows room) (V.hamt (T.map ms)) own = subst Q is (subst P v_is fits) in
        (f.0, root f.1)
