-- The parts of a value that fits fit too.
use Rattle.std.proofs.Common.{◌≡◌, ℕ, zero, suc, ◌+◌, ◌-◌, ◌≤◌, List, [], ◌∷◌, Option, Some, None, IsUtf8, slice_get, Bool, true, false, option_map, refl, sym, ap, ◌∙◌, subst, arith}
use Rattle.std.specs.List.{AllByRecursion}
use Rattle.std.proofs.lemmas.Option.{same_Some, none-some}
use Rattle.ild_data.specs.declared.hamt_shape.HamtShape.{HamtShape}
use Rattle.ild_data.specs.Data as T
use Rattle.ild_data.specs.Limits.{deepest}
use Rattle.ild_schema.specs.declared.number.Slot.{Slot}
use Rattle.ild_schema.specs.declared.number.TypeNo.{TypeNo}
use Rattle.ild_schema.specs.declared.def.TypeDef.{TypeDef}
use Rattle.ild_schema.specs.declared.def.TypeDef.TheVariants as D
use Rattle.ild_schema.specs.declared.def.MapForm.{MapForm}
use Rattle.ild_schema.specs.declared.def.MapForm.TheVariants as MF
use Rattle.ild_schema.specs.declared.def.StructDef.{StructDef}
use Rattle.ild_schema.specs.declared.def.UnionDef.{UnionDef}
use Rattle.ild_schema.specs.declared.def.Field.{Field}
use Rattle.ild_schema.specs.declared.def.Member.{Member}
use Rattle.ild_schema.specs.declared.row.Row.{Row}
use Rattle.ild_schema.specs.Slots.{form_of, plainly}
use Rattle.ild_schema.specs.Value as V
use Rattle.ild_schema.specs.Value.{Value, Values, Pairs, Optionals, values_list, pairs_list, optionals_list}
use Rattle.ild_typed.specs.Fits.{Fits}
use Rattle.ild_typed.specs.Layer as L
use Rattle.ild_typed.specs.Layer.{Layer}
use Rattle.ild_typed.specs.Layers.{AreKeys, LayerFits, RepresentsSome, layer_of}
use Rattle.ild_typed.specs.Levels.{levels_of}
use Rattle.ild_typed.proofs.FormOf.{list_form, map_form, struct_form, union_form}
use Rattle.ild_build.specs.PartAt.{field_at, in_slot, value_part_at}
use Rattle.ild_typed.specs.Slots.{element_of, fields_of, member_at, slot_of}
use Rattle.ild_typed.specs.Judged.{breaks, breaks_delimiter}
use Rattle.ild_build.proofs.PartFits.{part_fits, part_free, part_whole}
use Rattle.ild_build.proofs.PartTests.{by_part}
use Rattle.ild_build.proofs.RoomParts.{in_room}
use Rattle.ild_build_pass.specs.Fitting.{FitsIn, ItemsFit, EntriesFit, PlacesFit, HamtFits}

module _ (rows : List Row) where
  record LayerFit (d : TypeDef) (v : Value) (l : Layer Value) : Type 0 where
    room : ℕ
    low : room + levels_of d v ≤ deepest
    holds : LayerFits (Fits rows room) rows d l

  layer_fit : (s : Slot) (v : Value) (l : Layer Value) (d : TypeDef) → layer_of v ≡ Some l → form_of rows s ≡ Some d → FitsIn rows s v → LayerFit d v l
  layer_fit s v l d e f fit =
      let x = in_room rows fit.room s v l d e f fit.fits in
      let a = fit.low in
      record { room = fit.room - levels_of d v; low = omega (arith, x.0, a); holds = x.1 }

  -- ---- one part

  record PartFit (d : TypeDef) (v : Value) (u : Slot) (w : Value) : Type 0 where
    fit : FitsIn rows u w
    low : fit.room + levels_of d v ≤ deepest

  unbroken : (s : Slot) (v : Value) (d : TypeDef) → form_of rows s ≡ Some d → breaks_delimiter rows s v ≡ false → (i : ℕ) (u : Slot) (w : Value) → value_part_at (Some d) v i ≡ Some (u, w) → breaks_delimiter rows u w ≡ false
  unbroken s v d is free i u w e = by (breaks_delimiter rows u w) refl
    where
      false_true : false ≡ true → ⊥
      false_true k = absurd cc

      by : (b : Bool) → breaks_delimiter rows u w ≡ b → b ≡ false
      by false h = refl
      by true h = absurd (false_true (sym free ∙ by_part (breaks rows) rows s v d is i u w e h))

  part_fit : (s : Slot) (v : Value) (l : Layer Value) (d : TypeDef) → layer_of v ≡ Some l → form_of rows s ≡ Some d → FitsIn rows s v → (i : ℕ) (u : Slot) (w : Value) → value_part_at (Some d) v i ≡ Some (u, w) → PartFit d v u w
  part_fit s v l d e f fit i u w at =
      let x = layer_fit s v l d e f fit in
      let a = x.low in
      record {
        fit = record {
          room = x.room;
          low = omega (arith, a);
          fits = part_fits (Fits rows x.room) rows d v l i u w e x.holds at;
          whole = part_whole (Some d) v i u w at fit.whole;
          hole = part_free rows s v d f fit.hole i u w at;
          joined = unbroken s v d f fit.joined i u w at;
        };
        low = a;
      }

  -- ---- lists

  pub record ListFit (d : TypeDef) (vs : Values) : Type 0 where
    pub elem : Slot
    pub place : ℕ
    pub is : d ≡ D.List elem place
    pub each : ItemsFit rows elem (values_list vs)

  pub list_fit : (s : Slot) (vs : Values) (d : TypeDef) → form_of rows s ≡ Some d → FitsIn rows s (V.list vs) → ListFit d vs
  list_fit s vs d f fit =
      let x = layer_fit s (V.list vs) (L.list (values_list vs)) d refl f fit in
      let y = list_form rows (Fits rows x.room) d (values_list vs) x.holds in
      record {
        elem = y.0;
        place = y.1;
        is = y.2;
        each = λ i w e. (part_fit s (V.list vs) (L.list (values_list vs)) (D.List y.0 y.1) refl (f ∙ ap Some y.2) fit i y.0 w (ap (option_map {U = Slot × Value} (λ v. (y.0, v))) e)).fit;
      }

  -- ---- maps

  texts_in : (key : TypeNo) (u : Slot) (room : ℕ) (ps : List (List ℕ × Value)) → AllByRecursion (λ p. IsUtf8 p.0 × RepresentsSome (Fits rows room) rows (plainly key) (T.text p.0) × Fits rows room u p.1) ps
      → (i : ℕ) (p : List ℕ × Value) → slice_get ps i ≡ Some p → IsUtf8 p.0
  texts_in key u room [] all i p e = absurd (none-some {A = List ℕ × Value} p e)
  texts_in key u room (q ∷ ps) all zero p e = subst (λ (x : List ℕ × Value). IsUtf8 x.0) (same_Some {A = List ℕ × Value} q p e) all.0.0
  texts_in key u room (q ∷ ps) all (suc i) p e = texts_in key u room ps all.1 i p e

  pub record MapFit (d : TypeDef) (ps : Pairs) : Type 0 where
    pub key : TypeNo
    pub key_at : ℕ
    pub value : Slot
    pub place : ℕ
    pub form : MapForm
    pub is : d ≡ D.Map key key_at value place form
    pub each : EntriesFit rows value (pairs_list ps)
    pub hamt : (p : HamtShape) → form ≡ MF.Hamt p → HamtFits rows value (pairs_list ps)

  at_value : (u : Slot) (ps : Pairs) (i : ℕ) (p : List ℕ × Value) → slice_get (pairs_list ps) i ≡ Some p → option_map {U = Slot × Value} (λ v. (u, v)) (option_map (λ (q : List ℕ × Value). q.1) (slice_get (pairs_list ps) i)) ≡ Some (u, p.1)
  at_value u ps i p e = ap (λ o. option_map {U = Slot × Value} (λ v. (u, v)) (option_map (λ (q : List ℕ × Value). q.1) o)) e

  pub map_fit : (s : Slot) (ps : Pairs) (d : TypeDef) → form_of rows s ≡ Some d → FitsIn rows s (V.map ps) → MapFit d ps
  map_fit s ps d f fit =
      let x = layer_fit s (V.map ps) (L.map (pairs_list ps)) d refl f fit in
      let y = map_form rows (Fits rows x.room) d (pairs_list ps) x.holds in
      let part = λ (g : MapForm) (h : y.4 ≡ g) (i : ℕ) (p : List ℕ × Value) (e : slice_get (pairs_list ps) i ≡ Some p).
      part_fit s (V.map ps) (L.map (pairs_list ps)) (D.Map y.0 y.1 y.2 y.3 g) refl (f ∙ ap Some y.5 ∙ ap (λ k. Some (D.Map y.0 y.1 y.2 y.3 k)) h) fit i y.2 p.1 (at_value y.2 ps i p e) in
      record {
        key = y.0;
        key_at = y.1;
        value = y.2;
        place = y.3;
        form = y.4;
        is = y.5;
        each = λ i p e. (part y.4 refl i p e).fit;
        hamt = λ shape h. record {
          rises = subst (λ g. AreKeys g (pairs_list ps)) h y.6.0;
          each = λ i p e. let k = part (MF.Hamt shape) h i p e in record { text = texts_in y.0 y.2 x.room (pairs_list ps) y.6.1 i p e; part = k.fit; low = k.low };
        };
      }

  -- ---- structs

  pub record StructFit (d : TypeDef) (os : Optionals) : Type 0 where
    pub def : StructDef
    pub is : d ≡ D.Struct def
    pub each : PlacesFit rows def.fields (optionals_list os)

  at_field : (fs : List Field) (os : List (Option Value)) (i : ℕ) (g : Field) (w : Value) → slice_get fs i ≡ Some g → field_at os i ≡ Some w
      → in_slot (option_map (λ (h : Field). h.slot) (slice_get fs i)) (field_at os i) ≡ Some (g.slot, w)
  at_field fs os i g w a b = ap (λ o. in_slot (option_map (λ (h : Field). h.slot) o) (field_at os i)) a ∙ ap (in_slot (Some g.slot)) b

  pub struct_fit : (s : Slot) (os : Optionals) (d : TypeDef) → form_of rows s ≡ Some d → FitsIn rows s (V.struct os) → StructFit d os
  struct_fit s os d f fit =
      let x = layer_fit s (V.struct os) (L.struct (optionals_list os)) d refl f fit in
      let y = struct_form rows (Fits rows x.room) d (optionals_list os) x.holds in
      record {
        def = y.0;
        is = y.1;
        each = λ i g w a b. (part_fit s (V.struct os) (L.struct (optionals_list os)) (D.Struct y.0) refl (f ∙ ap Some y.1) fit i g.slot w (at_field y.0.fields (optionals_list os) i g w a b)).fit;
      }

  -- ---- unions

  pub record UnionFit (d : TypeDef) (n : ℕ) (v : Value) : Type 0 where
    pub def : UnionDef
    pub member : Member
    pub is : d ≡ D.Union def
    pub at : slice_get def.members n ≡ Some member
    pub fits : FitsIn rows (plainly member.ty) v

  pub union_fit : (s : Slot) (n : ℕ) (v : Value) (d : TypeDef) → form_of rows s ≡ Some d → FitsIn rows s (V.union n v) → UnionFit d n v
  union_fit s n v d f fit =
      let x = layer_fit s (V.union n v) (L.union n v) d refl f fit in
      let y = union_form rows (Fits rows x.room) d n v x.holds in
      let at : value_part_at (Some (D.Union y.0)) (V.union n v) 0 ≡ Some (plainly y.1.ty, v) = ap (λ o. in_slot (option_map slot_of o) (Some v)) y.3 in
      record {
        def = y.0;
        member = y.1;
        is = y.2;
        at = y.3;
        fits = (part_fit s (V.union n v) (L.union n v) (D.Union y.0) refl (f ∙ ap Some y.2) fit 0 (plainly y.1.ty) v at).fit;
      }

  -- ---- where the form is known

  pub items_fit : (s elem : Slot) (at : ℕ) (vs : Values) → form_of rows s ≡ Some (D.List elem at) → FitsIn rows s (V.list vs) → ItemsFit rows elem (values_list vs)
  items_fit s elem at vs f fit =
      let x = list_fit s vs (D.List elem at) f fit in
      subst (λ (u : Slot). ItemsFit rows u (values_list vs)) (same_Some x.elem elem (ap (λ (d : TypeDef). element_of (Some d)) (sym x.is))) x.each

  pub entries_fit : (s : Slot) (key : TypeNo) (key_at : ℕ) (value : Slot) (at : ℕ) (form : MapForm) (ps : Pairs) → form_of rows s ≡ Some (D.Map key key_at value at form) → FitsIn rows s (V.map ps) → EntriesFit rows value (pairs_list ps)
  entries_fit s key key_at value at form ps f fit =
      let x = map_fit s ps (D.Map key key_at value at form) f fit in
      subst (λ (u : Slot). EntriesFit rows u (pairs_list ps)) (same_Some x.value value (ap (λ (d : TypeDef). element_of (Some d)) (sym x.is))) x.each

  abbrev form_in : MapForm → TypeDef → MapForm
  form_in g (D.Map key key_at value at form) = form
  form_in g d = g

  pub hamt_fit : (s : Slot) (key : TypeNo) (key_at : ℕ) (value : Slot) (at : ℕ) (form : MapForm) (p : HamtShape) (ps : Pairs) → form_of rows s ≡ Some (D.Map key key_at value at form) → form ≡ MF.Hamt p → FitsIn rows s (V.map ps) → HamtFits rows value (pairs_list ps)
  hamt_fit s key key_at value at form p ps f h fit =
      let x = map_fit s ps (D.Map key key_at value at form) f fit in
      subst (λ (u : Slot). HamtFits rows u (pairs_list ps)) (same_Some x.value value (ap (λ (d : TypeDef). element_of (Some d)) (sym x.is))) (x.hamt p (ap (form_in form) (sym x.is) ∙ h))

  pub places_fit : (s : Slot) (sd : StructDef) (os : Optionals) → form_of rows s ≡ Some (D.Struct sd) → FitsIn rows s (V.struct os) → PlacesFit rows sd.fields (optionals_list os)
  places_fit s sd os f fit =
      let x = struct_fit s os (D.Struct sd) f fit in
      subst (λ (fs : List Field). PlacesFit rows fs (optionals_list os)) (ap (λ (d : TypeDef). fields_of (Some d)) (sym x.is)) x.each

  pub member_fit : (s : Slot) (ud : UnionDef) (n : ℕ) (m : Member) (v : Value) → form_of rows s ≡ Some (D.Union ud) → slice_get ud.members n ≡ Some m → FitsIn rows s (V.union n v) → FitsIn rows (plainly m.ty) v
  member_fit s ud n m v f at fit =
      let x = union_fit s n v (D.Union ud) f fit in
      subst (λ (k : Member). FitsIn rows (plainly k.ty) v) (same_Some x.member m (sym x.at ∙ sym (ap (λ (d : TypeDef). member_at (Some d) n) x.is) ∙ at)) x.fits

  pub member_there : (s : Slot) (ud : UnionDef) (n : ℕ) (v : Value) → form_of rows s ≡ Some (D.Union ud) → FitsIn rows s (V.union n v) → slice_get ud.members n ≡ None → ⊥
  member_there s ud n v f fit none =
      let x = union_fit s n v (D.Union ud) f fit in
      none-some x.member (sym none ∙ ap (λ (d : TypeDef). member_at (Some d) n) x.is ∙ x.at)
