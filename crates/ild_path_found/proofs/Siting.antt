-- A part of a front is represented by a part of the front's data.
use Rattle.std.proofs.Common.{◌≡◌, ℕ, zero, suc, ◌-◌, Bool, true, false, cond, List, [], ◌∷◌, slice_get, Option, Some, None, Contains, option_map, refl, sym, ap, ◌∙◌, subst}
use Rattle.std.specs.Prelude.{option_and_then}
use Rattle.std.proofs.lemmas.Option.{none-some, same_Some}
use Rattle.ild_data.proofs.AllOf.{contains_first, contains_more}
use Rattle.ild_data.specs.Data.{Data}
use Rattle.ild_data.specs.Key.{same_text, value_at}
use Rattle.ild_open_parts.specs.Sites.{IsPartOf}
use Rattle.ild_path_edits.proofs.Depth.{room_is_layered}
use Rattle.ild_path_edits.proofs.RoomTests.{schemas_have_tests}
use Rattle.ild_path_edits.specs.Along.{taken}
use Rattle.ild_path_found.specs.Laws.{PartsStandInData, is_any}
use Rattle.ild_schema.specs.Slots.{form_of, plainly}
use Rattle.ild_schema.specs.Value as V
use Rattle.ild_schema.specs.Value.{Value, Values, Pairs, Optionals, values_list, pairs_list, optionals_list}
use Rattle.ild_schema.specs.declared.def.Field.{Field}
use Rattle.ild_schema.specs.declared.def.Member.{Member}
use Rattle.ild_schema.specs.declared.def.TypeDef.{TypeDef}
use Rattle.ild_schema.specs.declared.def.TypeDef.TheVariants as D
use Rattle.ild_schema.specs.declared.number.Slot.{Slot}
use Rattle.ild_schema.specs.declared.row.Row.{Row}
use Rattle.ild_typed.proofs.Basics.{map_from, then_from, if_from}
use Rattle.ild_typed.proofs.Entries.{Both, both_from}
use Rattle.ild_typed.proofs.OneValue.{Way, as_layer, as_null, layer_data, way_of}
use Rattle.ild_typed.proofs.PartData.{member_data}
use Rattle.ild_typed.specs.At.{InSlot, seen}
use Rattle.ild_typed.specs.Composed.{composed}
use Rattle.ild_typed.specs.Hamt.{alone}
use Rattle.ild_typed.specs.Holder.{list_holder, map_holder, struct_holder, union_holder}
use Rattle.ild_typed.specs.Layer as L
use Rattle.ild_typed.specs.Layer.{Layer}
use Rattle.ild_typed.specs.OfType.{OfType}
use Rattle.ild_typed.specs.Pieces.{needs}
use Rattle.ild_typed.specs.Represented.{represented, represented_fields, represented_pairs, represented_values}
use Rattle.ild_typed.specs.Segment.{field_at, held_as, index_of, part}
use Rattle.ild_typed.specs.Slots.{slot_of}

-- ---- in the lists of parts

module _ (rows : List Row) where
  element_got : (u : Slot) (vs : Values) (ds : List Data) (i : ℕ) (w : Value) → represented_values alone rows u vs ≡ Some ds → slice_get (values_list vs) i ≡ Some w → (x : Data) × Contains ds x × (represented alone rows u w ≡ Some x)
  element_got u V.no_values ds i w e at = absurd (none-some w at)
  element_got u (V.value v vs) ds zero w e at =
      let b = both_from (represented alone rows u v) (represented_values alone rows u vs) ds e in
      (b.item, subst (λ (xs : List Data). Contains xs b.item) b.all (contains_first b.item b.items), ap (represented alone rows u) (sym (same_Some v w at)) ∙ b.first)
  element_got u (V.value v vs) ds (suc i) w e at =
      let b = both_from (represented alone rows u v) (represented_values alone rows u vs) ds e in
      let r = element_got u vs b.items i w b.rest at in
      (r.0, subst (λ (xs : List Data). Contains xs r.0) b.all (contains_more b.item b.items r.0 r.1), r.2)

  record EntryGot (u : Slot) (es : List (List ℕ × Data)) (w : Value) : Type 0 where
    key : List ℕ
    tree : Data
    there : Contains es (key, tree)
    made : represented alone rows u w ≡ Some tree

  entry_got : (u : Slot) (ps : Pairs) (es : List (List ℕ × Data)) (k : List ℕ) (w : Value) → represented_pairs alone rows u ps ≡ Some es → value_at k (pairs_list ps) ≡ Some w → EntryGot u es w
  entry_got u V.no_pairs es k w e at = absurd (none-some w at)
  entry_got u (V.pair p v ps) es k w e at =
      let b = both_from (option_map (λ d. (p, d)) (represented alone rows u v)) (represented_pairs alone rows u ps) es e in
      by b (same_text k p) (λ is. entry_got u ps b.items k w b.rest is) at
    where
      by : (b : Both (option_map (λ d. (p, d)) (represented alone rows u v)) (represented_pairs alone rows u ps) es) (c : Bool) → (value_at k (pairs_list ps) ≡ Some w → EntryGot u b.items w) → cond c (Some v) (value_at k (pairs_list ps)) ≡ Some w
          → EntryGot u es w
      by b true rest is =
          let x = map_from (λ d. (p, d)) (represented alone rows u v) b.item b.first in
          let first : (p, x.item) ≡ b.item = same_Some (p, x.item) b.item x.made in
          let all : (p, x.item) ∷ b.items ≡ es = ap (λ (z : List ℕ × Data). z ∷ b.items) first ∙ b.all in
          record {
            key = p;
            tree = x.item;
            there = subst (λ (xs : List (List ℕ × Data)). Contains xs (p, x.item)) all (contains_first (p, x.item) b.items);
            made = ap (represented alone rows u) (sym (same_Some v w is)) ∙ x.there;
          }
      by b false rest is =
          let r = rest is in
          record { key = r.key; tree = r.tree; there = subst (λ (xs : List (List ℕ × Data)). Contains xs (r.key, r.tree)) b.all (contains_more b.item b.items (r.key, r.tree) r.there); made = r.made }

  record FieldGot (fs : List Field) (ds : List (Option Data)) (q : InSlot) : Type 0 where
    place : ℕ
    field : Field
    known : slice_get fs place ≡ Some field
    tree : Data
    there : slice_get ds place ≡ Some (Some tree)
    slot : q.0 ≡ field.slot
    made : represented alone rows q.0 q.1 ≡ Some tree

  next_got : (f : Field) (fs : List Field) (o : Option Data) (ds : List (Option Data)) (q : InSlot) → FieldGot fs ds q → FieldGot (f ∷ fs) (o ∷ ds) q
  next_got f fs o ds q r = record { place = suc r.place; field = r.field; known = r.known; tree = r.tree; there = r.there; slot = r.slot; made = r.made }

  field_got : (fs : List Field) (os : Optionals) (ds : List (Option Data)) (k : List ℕ) (q : InSlot) → represented_fields alone rows fs os ≡ Some ds → field_at k fs (optionals_list os) ≡ Some q → FieldGot fs ds q
  field_got [] V.no_optionals ds k q e at = absurd (none-some q at)
  field_got [] (V.absent os) ds k q e at = absurd (none-some q at)
  field_got [] (V.present v os) ds k q e at = absurd (none-some q at)
  field_got (f ∷ fs) V.no_optionals ds k q e at = absurd (none-some q at)
  field_got (f ∷ fs) (V.absent os) ds k q e at =
      let x = map_from (λ (zs : List (Option Data)). None ∷ zs) (represented_fields alone rows fs os) ds e in
      subst (λ (zs : List (Option Data)). FieldGot (f ∷ fs) zs q) (same_Some (None ∷ x.item) ds x.made) (next_got f fs None x.item q (by (same_text k f.name) (λ is. field_got fs os x.item k q x.there is) at))
    where
      by : {P : Type 0} (c : Bool) → (field_at k fs (optionals_list os) ≡ Some q → P) → cond c None (field_at k fs (optionals_list os)) ≡ Some q → P
      by true rest is = absurd (none-some q is)
      by false rest is = rest is
  field_got (f ∷ fs) (V.present v os) ds k q e at =
      let b = both_from (option_map Some (represented alone rows f.slot v)) (represented_fields alone rows fs os) ds e in
      by b (same_text k f.name) (λ is. field_got fs os b.items k q b.rest is) at
    where
      by : (b : Both (option_map Some (represented alone rows f.slot v)) (represented_fields alone rows fs os) ds) (c : Bool) → (field_at k fs (optionals_list os) ≡ Some q → FieldGot fs b.items q)
          → cond c (Some (f.slot, v)) (field_at k fs (optionals_list os)) ≡ Some q → FieldGot (f ∷ fs) ds q
      by b true rest is =
          let x = map_from (λ (d : Data). Some d) (represented alone rows f.slot v) b.item b.first in
          let first : Some x.item ≡ b.item = same_Some (Some x.item) b.item x.made in
          let all : Some x.item ∷ b.items ≡ ds = ap (λ (z : Option Data). z ∷ b.items) first ∙ b.all in
          let own : (f.slot, v) ≡ q = same_Some (f.slot, v) q is in
          subst (λ (zs : List (Option Data)). FieldGot (f ∷ fs) zs q) all (subst (λ (r : InSlot). FieldGot (f ∷ fs) (Some x.item ∷ b.items) r) own
          (record { place = zero; field = f; known = refl; tree = x.item; there = refl; slot = refl; made = x.there }))
      by b false rest is = subst (λ (zs : List (Option Data)). FieldGot (f ∷ fs) zs q) b.all (next_got f fs b.item b.items q (rest is))

-- ---- by the form

-- without the room
record InData (rows : List Row) (s : Slot) (t : Data) (q : InSlot) : Type 0 where
  type : TypeDef
  form : form_of rows s ≡ Some type
  tree : Data
  part : IsPartOf type t q.0 tree
  made : represented alone rows q.0 q.1 ≡ Some tree
  needed : needs type t ≡ taken (Some type)

module _ (rows : List Row) (s : Slot) (t : Data) (k : List ℕ) (q : InSlot) where
  in_list : (vs : Values) (d : TypeDef) (l : Layer Data) → form_of rows s ≡ Some d → layer_data alone rows (Some d) (V.list vs) ≡ Some l → composed alone d l ≡ Some t → part (list_holder (Some d) vs) k ≡ Some q → InData rows s t q
  in_list vs (D.List elem at) l known there made is =
      let x = map_from (λ (w : Value). (elem, w)) (option_and_then (λ i. slice_get (values_list vs) i) (index_of k)) q is in
      let i = then_from (λ i. slice_get (values_list vs) i) (index_of k) x.item x.there in
      let y = map_from L.list (represented_values alone rows elem vs) l there in
      let z = element_got rows elem vs y.item i.item x.item y.there i.made in
      subst (λ (r : InSlot). InData rows s t r) (same_Some (elem, x.item) q x.made) (record {
        type = D.List elem at;
        form = known;
        tree = z.0;
        part = record { layer = L.list y.item; made = ap (composed alone (D.List elem at)) (same_Some (L.list y.item) l y.made) ∙ made; part = (refl, z.1) };
        made = z.2;
        needed = refl;
      })
  in_list vs d l known there made is = absurd (none-some q is)

  in_map : (ps : Pairs) (d : TypeDef) (l : Layer Data) → form_of rows s ≡ Some d → layer_data alone rows (Some d) (V.map ps) ≡ Some l → composed alone d l ≡ Some t → part (map_holder (Some d) ps) k ≡ Some q → InData rows s t q
  in_map ps (D.Map key key_at elem at form) l known there made is =
      let x = map_from (λ (w : Value). (elem, w)) (value_at k (pairs_list ps)) q is in
      let y = map_from L.map (represented_pairs alone rows elem ps) l there in
      let z = entry_got rows elem ps y.item k x.item y.there x.there in
      subst (λ (r : InSlot). InData rows s t r) (same_Some (elem, x.item) q x.made) (record {
        type = D.Map key key_at elem at form;
        form = known;
        tree = z.tree;
        part = record { layer = L.map y.item; made = ap (composed alone (D.Map key key_at elem at form)) (same_Some (L.map y.item) l y.made) ∙ made; part = (refl, z.key, z.there) };
        made = z.made;
        needed = refl;
      })
  in_map ps d l known there made is = absurd (none-some q is)

  in_struct : (os : Optionals) (d : TypeDef) (l : Layer Data) → form_of rows s ≡ Some d → layer_data alone rows (Some d) (V.struct os) ≡ Some l → composed alone d l ≡ Some t → part (struct_holder (Some d) os) k ≡ Some q → InData rows s t q
  in_struct os (D.Struct def) l known there made is =
      let y = map_from L.struct (represented_fields alone rows def.fields os) l there in
      let z = field_got rows def.fields os y.item k q y.there is in
      record {
        type = D.Struct def;
        form = known;
        tree = z.tree;
        part = record { layer = L.struct y.item; made = ap (composed alone (D.Struct def)) (same_Some (L.struct y.item) l y.made) ∙ made; part = (z.place, z.field, z.known, z.there, z.slot) };
        made = z.made;
        needed = refl;
      }
  in_struct os d l known there made is = absurd (none-some q is)

  in_union : (n : ℕ) (v : Value) (d : TypeDef) (l : Layer Data) → form_of rows s ≡ Some d → layer_data alone rows (Some d) (V.union n v) ≡ Some l → composed alone d l ≡ Some t → part (union_holder (Some d) n v) k ≡ Some q → InData rows s t q
  in_union n v (D.Union def) l known there made is = by (slice_get def.members n) refl is where
    by : (o : Option Member) → slice_get def.members n ≡ o → held_as k v o ≡ Some q → InData rows s t q
    by None at e = absurd (none-some q e)
    by (Some m) at e =
        let own = if_from (same_text k m.name) (Some (plainly m.ty, v)) q e in
        let y = map_from (L.union n) (member_data alone rows (option_map slot_of (slice_get def.members n)) v) l there in
        let z : represented alone rows (slot_of m) v ≡ Some y.item = ap (λ (o : Option Member). member_data alone rows (option_map slot_of o) v) (sym at) ∙ y.there in
        subst (λ (r : InSlot). InData rows s t r) (same_Some (plainly m.ty, v) q own.1) (record {
          type = D.Union def;
          form = known;
          tree = y.item;
          part = record { layer = L.union n y.item; made = ap (composed alone (D.Union def)) (same_Some (L.union n y.item) l y.made) ∙ made; part = (m, at, refl, refl) };
          made = z;
          needed = refl;
        })
  in_union n v d l known there made is = absurd (none-some q is)

  -- how each value holds parts
  formed : (f : Value) (d : TypeDef) (l : Layer Data) → is_any f ≡ false → form_of rows s ≡ Some d → layer_data alone rows (Some d) f ≡ Some l → composed alone d l ≡ Some t → part (seen rows (s, f)) k ≡ Some q → InData rows s t q
  formed (V.list vs) d l plain known there made is = in_list vs d l known there made (subst (λ (o : Option TypeDef). part (list_holder o vs) k ≡ Some q) known is)
  formed (V.map ps) d l plain known there made is = in_map ps d l known there made (subst (λ (o : Option TypeDef). part (map_holder o ps) k ≡ Some q) known is)
  formed (V.struct os) d l plain known there made is = in_struct os d l known there made (subst (λ (o : Option TypeDef). part (struct_holder o os) k ≡ Some q) known is)
  formed (V.union n v) d l plain known there made is = in_union n v d l known there made (subst (λ (o : Option TypeDef). part (union_holder o n v) k ≡ Some q) known is)
  formed (V.any x) d l plain known there made is = absurd cc
  formed V.null d l plain known there made is = absurd (none-some q is)
  formed (V.boolean b) d l plain known there made is = absurd (none-some q is)
  formed (V.integer n) d l plain known there made is = absurd (none-some q is)
  formed (V.text x) d l plain known there made is = absurd (none-some q is)
  formed (V.bytes x) d l plain known there made is = absurd (none-some q is)
  formed (V.link x) d l plain known there made is = absurd (none-some q is)
  formed (V.enum n) d l plain known there made is = absurd (none-some q is)
  formed V.unit d l plain known there made is = absurd (none-some q is)
  formed (V.hamt x) d l plain known there made is = absurd (none-some q is)

  in_data : (f : Value) → represented alone rows s f ≡ Some t → is_any f ≡ false → part (seen rows (s, f)) k ≡ Some q → InData rows s t q
  in_data f tree plain is = by (way_of alone rows s f t tree) where
    by : Way alone rows s f t → InData rows s t q
    by (as_null a n z) = absurd (none-some q (sym (ap (λ (v : Value). part (seen rows (s, v)) k) a) ∙ is))
    by (as_layer d l known there made) = formed f d l plain known there made is

pub parts_stand : PartsStandInData
parts_stand = λ rows schema room p q t s front plain is.
    let x = in_data rows p.0 t s q p.1 front.tree plain is in
    let tests = schemas_have_tests rows schema in
    let typed : OfType rows p.0 p.1 = (room, front.fits) in
    record {
      type = x.type;
      form = x.form;
      tree = x.tree;
      part = x.part;
      front = record { fits = (room_is_layered rows tests.0.is_key schema tests.1.keys).parts room p q s typed front.fits is; tree = x.made };
      left = ap (λ (o : Option TypeDef). room - taken o) x.form ∙ ap (λ n. room - n) (sym x.needed);
    }
