-- A value of a slot as one of a slot that it is compatible with, layer by layer.
use Rattle.std.proofs.Common.{◌≡◌, ℕ, ℤ, ◌-◌, ◌≤◌, ◌⊎◌, inl, inr, Bool, true, cond, List, [], ◌∷◌, ◌++◌, map, Some, IsUtf8, refl, sym, ap, ◌∙◌, subst, arith}
use Rattle.std.specs.Prelude.{IsSomeAnd, bytes_eq, slice_get, option_map, option_and_then}
use Rattle.std.specs.List.{AllByRecursion, flat_map}
use Rattle.std.specs.Option.{option_map_or}
use Rattle.std.proofs.lemmas.Bool.{false≢true}
use Rattle.std.proofs.lemmas.Option.{same_Some, none-some, slice_get_within}
use Rattle.ild_typed.proofs.WalkSound.{any_is}
use Rattle.ild_data.specs.Data as T
use Rattle.ild_data.specs.Data.{Data}
use Rattle.ild_data.specs.Key.{IsBelow, Rises, key_cmp}
use Rattle.ild_data.specs.declared.hamt_shape.HamtShape.{HamtShape}
use Rattle.ild_schema.specs.declared.number.Slot.{Slot}
use Rattle.ild_schema.specs.declared.number.TypeNo.{TypeNo}
use Rattle.ild_schema.specs.declared.def.TypeDef.{TypeDef}
use Rattle.ild_schema.specs.declared.def.TypeDef.TheVariants as D
use Rattle.ild_schema.specs.declared.def.MapForm.{MapForm}
use Rattle.ild_schema.specs.declared.def.MapForm.TheVariants as MF
use Rattle.ild_schema.specs.declared.def.UnionDef.{UnionDef}
use Rattle.ild_schema.specs.declared.def.EnumDef.{EnumDef}
use Rattle.ild_schema.specs.declared.def.Member.{Member}
use Rattle.ild_schema.specs.declared.def.EnumMember.{EnumMember}
use Rattle.ild_schema.specs.declared.row.Row.{Row}
use Rattle.ild_schema.specs.Value as V
use Rattle.ild_schema.specs.Value.{Value, Values, Pairs, values_list, pairs_list}
use Rattle.ild_schema.specs.Slots.{form_of, plainly}
use Rattle.ild_typed.specs.Layer as L
use Rattle.ild_typed.specs.Layer.{Layer, as_any}
use Rattle.ild_typed.specs.Blocks.{hamt_nodes, nodes, nodes_of_values, nodes_of_pairs}
use Rattle.ild_typed.specs.Composed.{Hamts, composed, any_data, map_form, member_form, enum_form}
use Rattle.ild_typed.specs.Fits.{FormFits, ValueFits}
use Rattle.ild_typed.specs.Hamt.{whole, alone}
use Rattle.ild_typed.specs.Layers.{IsNotNull, AreKeysApart, AreKeys, RepresentsSome, EntriesFit, RootFits}
use Rattle.ild_typed.specs.Levels.{levels_of, map_levels}
use Rattle.ild_typed.specs.Nested.{TreeIn}
use Rattle.ild_typed.specs.Node as N
use Rattle.ild_typed.specs.Represented.{layered, represented, represented_values, represented_pairs}
use Rattle.ild_typed.specs.Shown.{shown, shown_values, shown_pairs}
use Rattle.ild_typed.specs.Slots.{element_of, member_at, member_of, enum_member_at, slot_of}
use Rattle.ild_typed.specs.Strings.{cons_both, in_key_order, map_data}
use Rattle.ild_typed.proofs.Basics.{then_from, map_from}
use Rattle.ild_typed.proofs.Entries.{both_from, value_sorted}
use Rattle.ild_typed.proofs.Rising.{rising_same, rises_sorted}
use Rattle.ild_typed.proofs.FormOf.{boolean_form, integer_form, text_form, bytes_form, link_form, any_form, unit_form, enum_form as enum_type, list_form, union_form as union_type, map_form as map_type, hamt_form, root_there, entries_there, there_entries}
use Rattle.ild_typed.proofs.OneValue.{Way, as_null, as_layer, way_of, layer_data}
use Rattle.ild_typed.proofs.Rooms.{all_more}
use Rattle.ild_typed.proofs.TreeBlocks.{formed}
use Rattle.ild_typed.proofs.TreeParts.{rises_pairs}
use Rattle.ild_compat.specs.declared.rule.Rule.{Rule}
use Rattle.ild_compat.specs.declared.rule.Rule.TheVariants as R
use Rattle.ild_compat.specs.Compatible.{IsClosed}
use Rattle.ild_compat.specs.Fields.{has_member, has_value, has_same_mark, has_same_value, member_named, value_named}
use Rattle.ild_compat.specs.Same.{is_map}
use Rattle.ild_compat.specs.Table.{types_agree, unions_agree, asked_of, asked_of_member}
use Rattle.ild_schema.specs.Prelude.{anything}
use Rattle.ild_compat_laws.specs.inside.Carried.{IsIn, Carried, CarriedValues, CarriedPairs}
use Rattle.ild_compat_laws.proofs.Agreeing.{with_bool, with_text, with_bytes, with_int, with_any, with_link, with_unit, with_list, with_map, with_union, with_enum, same_unit, same_map, same_union, same_enum, meets, named, each_at, or_there, all_of_each, and_first, texts_same}
use Rattle.ild_compat_laws.proofs.Members.{same_member, same_value}

-- ---- members of lists

pub in_append : {X : Type 0} (x : X) (xs ys : List X) → IsIn x (xs ++ ys) → IsIn x xs ⊎ IsIn x ys
in_append x [] ys h = inr h
in_append x (z ∷ xs) ys (inl e) = inl (inl e)
in_append x (z ∷ xs) ys (inr h) = elim (in_append x xs ys h) [ inl k ↦ inl (inr k) | inr k ↦ inr k ]

pub in_left : {X : Type 0} (x : X) (xs ys : List X) → IsIn x xs → IsIn x (xs ++ ys)
in_left x [] ys h = absurd h
in_left x (z ∷ xs) ys (inl e) = inl e
in_left x (z ∷ xs) ys (inr h) = inr (in_left x xs ys h)

pub in_right : {X : Type 0} (x : X) (xs ys : List X) → IsIn x ys → IsIn x (xs ++ ys)
in_right x [] ys h = h
in_right x (z ∷ xs) ys h = inr (in_right x xs ys h)

pub in_both : {X : Type 0} (x : X) (xs ys us ws : List X) → (IsIn x us → IsIn x xs) → (IsIn x ws → IsIn x ys) → IsIn x (us ++ ws) → IsIn x (xs ++ ys)
in_both x xs ys us ws f g h = elim (in_append x us ws h) [ inl k ↦ in_left x xs ys (f k) | inr k ↦ in_right x xs ys (g k) ]

-- ---- what the data of Any show

-- the value of a layer of Any
any_value : (at : Hamts) (rows : List Row) (w : Value) (l : Layer Data) (x : Data) → layer_data at rows (Some D.Any) w ≡ Some l → as_any l ≡ Some x → w ≡ V.any x
any_value at rows V.null l x e k = absurd (none-some l e)
any_value at rows (V.boolean b) l x e k = absurd (none-some x (ap as_any (same_Some (L.boolean b) l e) ∙ k))
any_value at rows (V.integer n) l x e k = absurd (none-some x (ap as_any (same_Some (L.integer n) l e) ∙ k))
any_value at rows (V.text s) l x e k = absurd (none-some x (ap as_any (same_Some (L.text s) l e) ∙ k))
any_value at rows (V.bytes s) l x e k = absurd (none-some x (ap as_any (same_Some (L.bytes s) l e) ∙ k))
any_value at rows (V.link s) l x e k = absurd (none-some x (ap as_any (same_Some (L.link s) l e) ∙ k))
any_value at rows (V.any d) l x e k = ap V.any (same_Some d x (ap as_any (same_Some (L.any d) l e) ∙ k))
any_value at rows V.unit l x e k = absurd (none-some x (ap as_any (same_Some L.unit l e) ∙ k))
any_value at rows (V.enum n) l x e k = absurd (none-some x (ap as_any (same_Some (L.enum n) l e) ∙ k))
any_value at rows (V.hamt d) l x e k = absurd (none-some x (ap as_any (same_Some (L.hamt d) l e) ∙ k))
any_value at rows (V.list vs) l x e k = absurd (none-some l e)
any_value at rows (V.map ps) l x e k = absurd (none-some l e)
any_value at rows (V.struct os) l x e k = let m = map_from L.struct _ l e in absurd (none-some x (ap as_any (same_Some (L.struct m.item) l m.made) ∙ k))
any_value at rows (V.union n v) l x e k = absurd (none-some l e)

any_itself : (t : Data) → IsNotNull t → any_data t ≡ Some t
any_itself T.null h = absurd h
any_itself (T.boolean b) h = refl
any_itself (T.integer n) h = refl
any_itself (T.text s) h = refl
any_itself (T.bytes s) h = refl
any_itself (T.list ds) h = refl
any_itself (T.map ms) h = refl
any_itself (T.link s) h = refl

pub any_shown : (at : Hamts) (rows : List Row) (s : Slot) (w : Value) (t : Data) → form_of rows s ≡ Some D.Any → represented at rows s w ≡ Some t → shown rows s w ≡ t
any_shown at rows s w t is e = by (way_of at rows s w t e)
  where
    by : Way at rows s w t → shown rows s w ≡ t
    by (as_null null nullable none) = ap (shown rows s) null ∙ sym none
    by (as_layer d l form given composes) =
        let same : d ≡ D.Any = same_Some d D.Any (sym form ∙ is) in
        let there : layer_data at rows (Some D.Any) w ≡ Some l = sym (ap (λ c. layer_data at rows (Some c) w) same) ∙ given in
        let made : composed at D.Any l ≡ Some t = sym (ap (λ c. composed at c l) same) ∙ composes in
        let x = then_from any_data (as_any l) t made in
        ap (shown rows s) (any_value at rows w l x.item there x.there) ∙ any_is x.item t x.made

any_values_shown : (at : Hamts) (rows : List Row) (s : Slot) (ws : Values) (ts : List Data) → form_of rows s ≡ Some D.Any → represented_values at rows s ws ≡ Some ts → shown_values rows s ws ≡ T.items_of ts
any_values_shown at rows s V.no_values ts is e = ap T.items_of (same_Some [] ts e)
any_values_shown at rows s (V.value w ws) ts is e =
    let b = both_from (represented at rows s w) (represented_values at rows s ws) ts e in
    let one = any_shown at rows s w b.item is b.first in
    let rest = any_values_shown at rows s ws b.items is b.rest in
    (λ i. T.item (one i) (rest i)) ∙ ap T.items_of b.all

any_pairs_shown : (at : Hamts) (rows : List Row) (s : Slot) (ps : Pairs) (es : List (List ℕ × Data)) → form_of rows s ≡ Some D.Any → represented_pairs at rows s ps ≡ Some es → shown_pairs rows s ps ≡ es
any_pairs_shown at rows s V.no_pairs es is e = same_Some [] es e
any_pairs_shown at rows s (V.pair k v ps) es is e =
    let b = both_from (option_map {U = List ℕ × Data} (λ d. (k, d)) (represented at rows s v)) (represented_pairs at rows s ps) es e in
    let x = map_from {B = List ℕ × Data} (λ d. (k, d)) (represented at rows s v) b.item b.first in
    let one = any_shown at rows s v x.item is x.there in
    let rest = any_pairs_shown at rows s ps b.items is b.rest in
    let item : (k, x.item) ≡ b.item = same_Some (k, x.item) b.item x.made in
    (λ i. (k, one i) ∷ rest i) ∙ ap (λ (p : List ℕ × Data). p ∷ b.items) item ∙ b.all

-- ---- keys

rises_keys : {X Y : Type 0} (ps : List (List ℕ × X)) (qs : List (List ℕ × Y)) → map (λ q. q.0) qs ≡ map (λ p. p.0) ps → Rises ps → Rises qs
rises_keys ps [] e h = tt
rises_keys [] (q ∷ qs) e h = absurd cc
rises_keys {X = X} {Y = Y} (p ∷ ps) (q ∷ qs) e h = (below ps qs (head_same e) (tail_same e) h.0, rises_keys ps qs (tail_same e) h.1)
  where
    head_of : List (List ℕ) → List ℕ
    head_of [] = []
    head_of (k ∷ ks) = k

    tail_of : List (List ℕ) → List (List ℕ)
    tail_of [] = []
    tail_of (k ∷ ks) = ks

    head_same : map (λ q. q.0) (q ∷ qs) ≡ map (λ p. p.0) (p ∷ ps) → q.0 ≡ p.0
    head_same e = ap head_of e

    tail_same : map (λ q. q.0) (q ∷ qs) ≡ map (λ p. p.0) (p ∷ ps) → map (λ q. q.0) qs ≡ map (λ p. p.0) ps
    tail_same e = ap tail_of e

    below : (ps : List (List ℕ × X)) (qs : List (List ℕ × Y)) → q.0 ≡ p.0 → map (λ q. q.0) qs ≡ map (λ p. p.0) ps → IsBelow p.0 ps → IsBelow q.0 qs
    below ps [] first rest h = tt
    below [] (b ∷ qs) first rest h = absurd cc
    below (a ∷ ps) (b ∷ qs) first rest h = ap (λ k. key_cmp k b.0) first ∙ ap (key_cmp p.0) (ap head_of rest) ∙ h

apart_keys : {X Y : Type 0} (ps : List (List ℕ × X)) (qs : List (List ℕ × Y)) → map (λ q. q.0) qs ≡ map (λ p. p.0) ps → AreKeysApart ps → AreKeysApart qs
apart_keys ps [] e h = tt
apart_keys [] (q ∷ qs) e h = absurd cc
apart_keys {X = X} {Y = Y} (p ∷ ps) (q ∷ qs) e h = (other ps qs (ap head_of e) (ap tail_of e) h.0, apart_keys ps qs (ap tail_of e) h.1)
  where
    head_of : List (List ℕ) → List ℕ
    head_of [] = []
    head_of (k ∷ ks) = k

    tail_of : List (List ℕ) → List (List ℕ)
    tail_of [] = []
    tail_of (k ∷ ks) = ks

    other : (ps : List (List ℕ × X)) (qs : List (List ℕ × Y)) → q.0 ≡ p.0 → map (λ q. q.0) qs ≡ map (λ p. p.0) ps → AllByRecursion (λ r. p.0 ≡ r.0 → ⊥) ps → AllByRecursion (λ r. q.0 ≡ r.0 → ⊥) qs
    other ps [] first rest h = tt
    other [] (b ∷ qs) first rest h = absurd cc
    other (a ∷ ps) (b ∷ qs) first rest h = ((λ same. h.0 (sym first ∙ same ∙ ap head_of rest)), other ps qs first (ap tail_of rest) h.1)

same_keys : (f : MapForm) (ps qs : List (List ℕ × Value)) → map (λ q. q.0) qs ≡ map (λ p. p.0) ps → AreKeys f ps → AreKeys f qs
same_keys MF.Map ps qs e h = rises_keys ps qs e h
same_keys MF.ListPairs ps qs e h = apart_keys ps qs e h
same_keys (MF.StringPairs inner entry) ps qs e h = apart_keys ps qs e h
same_keys (MF.Hamt p) ps qs e h = rises_keys ps qs e h

-- the nodes of a map are those of its form and its entries
same_nodes : (h : List ℕ → List ℕ) (k l : TypeNo) (ka la : ℕ) (v w : Slot) (vp wp : ℕ) (f : MapForm) (es : List (List ℕ × Data)) → hamt_nodes h (Some (D.Map k ka v vp f)) (Some es) ≡ hamt_nodes h (Some (D.Map l la w wp f)) (Some es)
same_nodes h k l ka la v w vp wp MF.Map es = refl
same_nodes h k l ka la v w vp wp MF.ListPairs es = refl
same_nodes h k l ka la v w vp wp (MF.StringPairs inner entry) es = refl
same_nodes h k l ka la v w vp wp (MF.Hamt p) es = refl

-- rising pairs stand in the key order
sorted_itself : (es : List (List ℕ × Data)) → Rises es → in_key_order es ≡ es
sorted_itself es h = rising_same (in_key_order es) es (rises_sorted es) h (λ q. value_sorted q es)

-- all pairs of a list are of a set
abbrev AllIn : (Slot → Slot → Bool) → List (Slot × Slot) → Type 0
AllIn set ps = AllByRecursion (λ p. set p.0 p.1 ≡ true) ps

-- ---- one layer

module _ (rows others : List Row) (set : Slot → Slot → Bool) (closed : IsClosed rows others set) (first_any : form_of others anything ≡ Some D.Any)
    (room : ℕ) (before after : ℕ → Slot → Value → Type 0) (Good : Hamts → Type 0) (good_alone : Good alone)
    (later : (at : Hamts) → Good at → (o : ℕ) (a b : Slot) (v : Value) (t : Data) → set a b ≡ true → before o a v → represented at rows a v ≡ Some t → Carried rows others at (after o) a b v t) where
  values_carried : (at : Hamts) → Good at → (o : ℕ) (u w : Slot) → set u w ≡ true → (vs : Values) (ts : List Data) → AllByRecursion (before o u) (values_list vs) → represented_values at rows u vs ≡ Some ts
      → CarriedValues rows others at (after o) u w vs ts
  values_carried at g o u w s V.no_values ts f e = record { values = V.no_values; fits = tt; tree = e; shown = refl; nodes = λ h k n i. i }
  values_carried at g o u w s (V.value v vs) ts f e =
      let b = both_from (represented at rows u v) (represented_values at rows u vs) ts e in
      let x = later at g o u w v b.item s f.0 b.first in
      let y = values_carried at g o u w s vs b.items f.1 b.rest in
      record {
        values = V.value x.value y.values;
        fits = (x.fits, y.fits);
        tree = (λ i. cons_both (x.tree i) (y.tree i)) ∙ ap Some b.all;
        shown = λ i. T.item (x.shown i) (y.shown i);
        nodes = λ h k n. in_both n (nodes h rows u v) (nodes_of_values h rows u vs) (nodes h others w x.value) (nodes_of_values h others w y.values) (x.nodes h k n) (y.nodes h k n);
      }

  shows_carried : (o : ℕ) (u w : Slot) (x : Data) → set u w ≡ true → RepresentsSome (before o) rows u x → RepresentsSome (after o) others w x
  shows_carried o u w x s (v, f, e) = let c = later alone good_alone o u w v x s f e in (c.value, c.fits, c.tree)

  module _ (at : Hamts) (g : Good at) (o : ℕ) (u w : Slot) (s : set u w ≡ true) (P Q : List ℕ × Value → Type 0) (has : (k : List ℕ) (v : Value) → P (k, v) → before o u v)
      (make : (k : List ℕ) (v x : Value) → P (k, v) → after o w x → Q (k, x)) where
    pairs_carried : (ps : Pairs) (es : List (List ℕ × Data)) → AllByRecursion P (pairs_list ps) → represented_pairs at rows u ps ≡ Some es → CarriedPairs rows others at Q u w ps es
    pairs_carried V.no_pairs es f e = record { pairs = V.no_pairs; keys = refl; fits = tt; tree = e; shown = refl; nodes = λ h k n i. i }
    pairs_carried (V.pair k v ps) es f e =
        let b = both_from (option_map {U = List ℕ × Data} (λ d. (k, d)) (represented at rows u v)) (represented_pairs at rows u ps) es e in
        let m = map_from {B = List ℕ × Data} (λ d. (k, d)) (represented at rows u v) b.item b.first in
        let x = later at g o u w v m.item s (has k v f.0) m.there in
        let y = pairs_carried ps b.items f.1 b.rest in
        record {
          pairs = V.pair k x.value y.pairs;
          keys = ap (λ ks. k ∷ ks) y.keys;
          fits = (make k v x.value f.0 x.fits, y.fits);
          tree = (λ i. cons_both (option_map {U = List ℕ × Data} (λ d. (k, d)) (x.tree i)) (y.tree i)) ∙ (λ i. cons_both (m.made i) (Some b.items)) ∙ ap Some b.all;
          shown = λ i. (k, x.shown i) ∷ y.shown i;
          nodes = λ h q n. in_both n (nodes h rows u v) (nodes_of_pairs h rows u ps) (nodes h others w x.value) (nodes_of_pairs h others w y.pairs) (x.nodes h q n) (y.nodes h q n);
        }

  -- data as a value of Any
  as_any_carried : (at : Hamts) (a b : Slot) (v : Value) (t : Data) → form_of others b ≡ Some D.Any → TreeIn room t → IsNotNull t → shown rows a v ≡ t → Carried rows others at (ValueFits others room after) a b v t
  as_any_carried at a b v t is tree some same = record {
    value = V.any t;
    fits = subst (λ o. IsSomeAnd o (FormFits others room after (V.any t))) (sym is) (tree.nested, (tree.tree, some));
    tree = ap (λ o. layered at o (Some (L.any t))) is ∙ any_itself t some;
    shown = sym same;
    nodes = λ h k n i. absurd i;
  }

  -- the value itself
  keep : (at : Hamts) (a b : Slot) (v : Value) (t : Data) (l : Layer Data) (e : TypeDef) → (IsSomeAnd (form_of others b) (FormFits others room after v) → ValueFits others room after b v)
      → represented at others b v ≡ layered at (form_of others b) (Some l) → form_of others b ≡ Some e → FormFits others room after v e → composed at e l ≡ Some t → shown others b v ≡ shown rows a v
      → ((h : List ℕ → List ℕ) (n : List ℕ) → IsIn n (nodes h others b v) → ⊥) → Carried rows others at (ValueFits others room after) a b v t
  keep at a b v t l e whole_fits layer is fits made same none = record {
    value = v;
    fits = whole_fits (subst (λ o. IsSomeAnd o (FormFits others room after v)) (sym is) fits);
    tree = layer ∙ ap (λ o. layered at o (Some l)) is ∙ made;
    shown = same;
    nodes = λ h k n i. absurd (none h n i);
  }

  pub boolean_carried : (at : Hamts) (a b : Slot) (x : Bool) (t : Data) → set a b ≡ true → ValueFits rows room before a (V.boolean x) → TreeIn room t → represented at rows a (V.boolean x) ≡ Some t → Carried rows others at (ValueFits others room after) a b (V.boolean x) t
  boolean_carried at a b x t s f tree e =
      let m = formed (FormFits rows room before (V.boolean x)) (form_of rows a) f in
      let d : m.form ≡ D.Bool = boolean_form rows (before (levels_of m.form (V.boolean x) - 1)) m.form x m.holds.1 in
      let is : form_of rows a ≡ Some D.Bool = m.is ∙ ap Some d in
      let k = meets rows others set closed a b D.Bool s is in
      let made : T.boolean x ≡ t = same_Some (T.boolean x) t (sym (ap (λ o. layered at o (Some (L.boolean x))) is) ∙ e) in
      elim (with_bool k.form k.agree) [
        | inl same ↦ keep at a b (V.boolean x) t (L.boolean x) D.Bool (λ h. h) refl (k.is ∙ ap Some same) (omega arith, tt) (ap Some made) refl (λ h n i. i)
        | inr any ↦ as_any_carried at a b (V.boolean x) t (k.is ∙ ap Some any) tree (subst IsNotNull made tt) made
      ]

  pub integer_carried : (at : Hamts) (a b : Slot) (x : ℤ) (t : Data) → set a b ≡ true → ValueFits rows room before a (V.integer x) → TreeIn room t → represented at rows a (V.integer x) ≡ Some t → Carried rows others at (ValueFits others room after) a b (V.integer x) t
  integer_carried at a b x t s f tree e =
      let m = formed (FormFits rows room before (V.integer x)) (form_of rows a) f in
      let d = integer_form rows (before (levels_of m.form (V.integer x) - 1)) m.form x m.holds.1 in
      let is : form_of rows a ≡ Some D.Int = m.is ∙ ap Some d.0 in
      let k = meets rows others set closed a b D.Int s is in
      let made : T.integer x ≡ t = same_Some (T.integer x) t (sym (ap (λ o. layered at o (Some (L.integer x))) is) ∙ e) in
      elim (with_int k.form k.agree) [
        | inl same ↦ keep at a b (V.integer x) t (L.integer x) D.Int (λ h. h) refl (k.is ∙ ap Some same) (omega arith, d.1) (ap Some made) refl (λ h n i. i)
        | inr any ↦ as_any_carried at a b (V.integer x) t (k.is ∙ ap Some any) tree (subst IsNotNull made tt) made
      ]

  pub text_carried : (at : Hamts) (a b : Slot) (x : List ℕ) (t : Data) → set a b ≡ true → ValueFits rows room before a (V.text x) → TreeIn room t → represented at rows a (V.text x) ≡ Some t → Carried rows others at (ValueFits others room after) a b (V.text x) t
  text_carried at a b x t s f tree e =
      let m = formed (FormFits rows room before (V.text x)) (form_of rows a) f in
      let d = text_form rows (before (levels_of m.form (V.text x) - 1)) m.form x m.holds.1 in
      let is : form_of rows a ≡ Some D.Text = m.is ∙ ap Some d.0 in
      let k = meets rows others set closed a b D.Text s is in
      let made : T.text x ≡ t = same_Some (T.text x) t (sym (ap (λ o. layered at o (Some (L.text x))) is) ∙ e) in
      elim (with_text k.form k.agree) [
        | inl same ↦ keep at a b (V.text x) t (L.text x) D.Text (λ h. h) refl (k.is ∙ ap Some same) (omega arith, d.1) (ap Some made) refl (λ h n i. i)
        | inr any ↦ as_any_carried at a b (V.text x) t (k.is ∙ ap Some any) tree (subst IsNotNull made tt) made
      ]

  pub bytes_carried : (at : Hamts) (a b : Slot) (x : List ℕ) (t : Data) → set a b ≡ true → ValueFits rows room before a (V.bytes x) → TreeIn room t → represented at rows a (V.bytes x) ≡ Some t → Carried rows others at (ValueFits others room after) a b (V.bytes x) t
  bytes_carried at a b x t s f tree e =
      let m = formed (FormFits rows room before (V.bytes x)) (form_of rows a) f in
      let d = bytes_form rows (before (levels_of m.form (V.bytes x) - 1)) m.form x m.holds.1 in
      let is : form_of rows a ≡ Some D.Bytes = m.is ∙ ap Some d.0 in
      let k = meets rows others set closed a b D.Bytes s is in
      let made : T.bytes x ≡ t = same_Some (T.bytes x) t (sym (ap (λ o. layered at o (Some (L.bytes x))) is) ∙ e) in
      elim (with_bytes k.form k.agree) [
        | inl same ↦ keep at a b (V.bytes x) t (L.bytes x) D.Bytes (λ h. h) refl (k.is ∙ ap Some same) (omega arith, d.1) (ap Some made) refl (λ h n i. i)
        | inr any ↦ as_any_carried at a b (V.bytes x) t (k.is ∙ ap Some any) tree (subst IsNotNull made tt) made
      ]

  pub link_carried : (at : Hamts) (a b : Slot) (x : List ℕ) (t : Data) → set a b ≡ true → ValueFits rows room before a (V.link x) → TreeIn room t → represented at rows a (V.link x) ≡ Some t → Carried rows others at (ValueFits others room after) a b (V.link x) t
  link_carried at a b x t s f tree e =
      let m = formed (FormFits rows room before (V.link x)) (form_of rows a) f in
      let d = link_form rows (before (levels_of m.form (V.link x) - 1)) m.form x m.holds.1 in
      let is : form_of rows a ≡ Some (D.Link d.0) = m.is ∙ ap Some d.1 in
      let k = meets rows others set closed a b (D.Link d.0) s is in
      let made : T.link x ≡ t = same_Some (T.link x) t (sym (ap (λ o. layered at o (Some (L.link x))) is) ∙ e) in
      elim (with_link d.0 k.form k.agree) [
        | inl same ↦ keep at a b (V.link x) t (L.link x) (D.Link same.0) (λ h. h) refl (k.is ∙ ap Some same.1) (omega arith, (d.2, d.3)) (ap Some made) refl (λ h n i. i)
        | inr any ↦ as_any_carried at a b (V.link x) t (k.is ∙ ap Some any) tree (subst IsNotNull made tt) made
      ]

  pub any_carried : (at : Hamts) (a b : Slot) (x t : Data) → set a b ≡ true → ValueFits rows room before a (V.any x) → TreeIn room t → represented at rows a (V.any x) ≡ Some t → Carried rows others at (ValueFits others room after) a b (V.any x) t
  any_carried at a b x t s f tree e =
      let m = formed (FormFits rows room before (V.any x)) (form_of rows a) f in
      let d = any_form rows (before (levels_of m.form (V.any x) - 1)) m.form x m.holds.1 in
      let is : form_of rows a ≡ Some D.Any = m.is ∙ ap Some d.0 in
      let k = meets rows others set closed a b D.Any s is in
      let made : x ≡ t = any_is x t (sym (ap (λ o. layered at o (Some (L.any x))) is) ∙ e) in
      as_any_carried at a b (V.any x) t (k.is ∙ ap Some (with_any k.form k.agree)) tree (subst IsNotNull made d.2) made

  pub unit_carried : (at : Hamts) (a b : Slot) (t : Data) → set a b ≡ true → ValueFits rows room before a V.unit → represented at rows a V.unit ≡ Some t → Carried rows others at (ValueFits others room after) a b V.unit t
  unit_carried at a b t s f e =
      let m = formed (FormFits rows room before V.unit) (form_of rows a) f in
      let d = unit_form rows (before (levels_of m.form V.unit - 1)) m.form m.holds.1 in
      let is : form_of rows a ≡ Some (D.Unit d.0) = m.is ∙ ap Some d.1 in
      let k = meets rows others set closed a b (D.Unit d.0) s is in
      let o = with_unit d.0 k.form k.agree in
      let form : d.0 ≡ o.0 = same_unit d.0 o.0 (sym (ap (λ c. types_agree R.Strategy (Some (D.Unit d.0)) (Some c)) o.1) ∙ k.rules R.Strategy) in
      let level : 1 ≤ room = subst (λ c. levels_of c V.unit ≤ room) d.1 m.holds.0 in
      keep at a b V.unit t L.unit (D.Unit o.0) (λ h. h) refl (k.is ∙ ap Some o.1) (level, tt) (ap (λ g. composed at (D.Unit g) L.unit) (sym form) ∙ sym (ap (λ c. layered at c (Some L.unit)) is) ∙ e) refl (λ h n i. i)

  -- ---- enums and unions

  pub enum_carried : (at : Hamts) (a b : Slot) (n : ℕ) (t : Data) → set a b ≡ true → ValueFits rows room before a (V.enum n) → represented at rows a (V.enum n) ≡ Some t → Carried rows others at (ValueFits others room after) a b (V.enum n) t
  enum_carried at a b n t s f e =
      let m = formed (FormFits rows room before (V.enum n)) (form_of rows a) f in
      let d = enum_type rows (before (levels_of m.form (V.enum n) - 1)) m.form n m.holds.1 in
      let u : EnumDef = d.0 in
      let mem : EnumMember = d.1 in
      let is : form_of rows a ≡ Some (D.Enum u) = m.is ∙ ap Some d.2 in
      let k = meets rows others set closed a b (D.Enum u) s is in
      let o = with_enum u k.form k.agree in
      let v : EnumDef = o.0 in
      let there : form_of others b ≡ Some (D.Enum v) = k.is ∙ ap Some o.1 in
      let rules : (rule : Rule) → types_agree rule (Some (D.Enum u)) (Some (D.Enum v)) ≡ true = λ rule. sym (ap (λ c. types_agree rule (Some (D.Enum u)) (Some c)) o.1) ∙ k.rules rule in
      let form : u.form ≡ v.form = same_enum u.form v.form (rules R.Strategy) in
      let found = or_there (λ (x : EnumMember). has_same_value u.form mem x) (value_named mem.name v.members) (each_at (has_value u.form v.members) u.members n mem (rules R.Member) d.3) in
      let other : EnumMember = found.0 in
      let place = named (λ (x : EnumMember). bytes_eq mem.name x.name) v.members other found.1 in
      let made : enum_form u.form mem ≡ Some t =
      sym (ap (option_and_then (enum_form u.form)) d.3) ∙ sym (ap (λ c. layered at c (Some (L.enum n))) is) ∙ e in
      record {
        value = V.enum place.place;
        fits = subst (λ c. IsSomeAnd c (FormFits others room after (V.enum place.place))) (sym there) (omega arith, slice_get_within v.members place.place other place.there);
        tree =
            ap (λ c. layered at c (Some (L.enum place.place))) there ∙ ap (option_and_then (enum_form v.form)) place.there
            ∙ ap (λ g. enum_form g other) (sym form) ∙ sym (same_value u.form mem other found.2) ∙ made;
        shown =
            ap (λ c. T.text (option_map_or (λ (x : EnumMember). x.name) (enum_member_at c place.place) [])) there
            ∙ ap (λ c. T.text (option_map_or (λ (x : EnumMember). x.name) c [])) place.there
            ∙ ap T.text (sym (texts_same mem.name other.name place.test))
            ∙ sym (ap (λ c. T.text (option_map_or (λ (x : EnumMember). x.name) (enum_member_at c n) [])) is ∙ ap (λ c. T.text (option_map_or (λ (x : EnumMember). x.name) c [])) d.3);
        nodes = λ h q x i. absurd i;
      }

  pub union_carried : (at : Hamts) → Good at → (a b : Slot) (n : ℕ) (x : Value) (t : Data) → set a b ≡ true → ValueFits rows room before a (V.union n x) → represented at rows a (V.union n x) ≡ Some t
      → Carried rows others at (ValueFits others room after) a b (V.union n x) t
  union_carried at g a b n x t s f e =
      let m = formed (FormFits rows room before (V.union n x)) (form_of rows a) f in
      let d = union_type rows (before (levels_of m.form (V.union n x) - 1)) m.form n x m.holds.1 in
      let u : UnionDef = d.0 in
      let mem : Member = d.1 in
      let is : form_of rows a ≡ Some (D.Union u) = m.is ∙ ap Some d.2 in
      let k = meets rows others set closed a b (D.Union u) s is in
      let o = with_union u k.form k.agree in
      let v : UnionDef = o.0 in
      let there : form_of others b ≡ Some (D.Union v) = k.is ∙ ap Some o.1 in
      let rules : (rule : Rule) → types_agree rule (Some (D.Union u)) (Some (D.Union v)) ≡ true = λ rule. sym (ap (λ c. types_agree rule (Some (D.Union u)) (Some c)) o.1) ∙ k.rules rule in
      let form : u.form ≡ v.form = same_union u.form v.form (rules R.Strategy) in
      let found = or_there (λ (y : Member). has_same_mark u.form mem y) (member_named mem.name v.members)
      (each_at (has_member u.form v.members) u.members n mem (and_first (unions_agree u v) true (rules R.Member)) d.3) in
      let other : Member = found.0 in
      let place = named (λ (y : Member). bytes_eq mem.name y.name) v.members other found.1 in
      let asks : AllIn set (flat_map (asked_of_member v.members) u.members) = subst (λ c. AllIn set (asked_of (D.Union u) c)) o.1 k.asks in
      let pair : set (plainly mem.ty) (plainly other.ty) ≡ true =
      (subst (λ c. AllIn set (option_map_or (λ (y : Member). (plainly mem.ty, plainly y.ty) ∷ []) c [])) found.1 (all_of_each (λ (p : Slot × Slot). set p.0 p.1 ≡ true) (asked_of_member v.members) u.members n mem asks d.3)).0 in
      let whole : option_and_then (composed at (D.Union u)) (option_map (L.union n) (option_and_then (λ w. represented at rows w x) (option_map slot_of (slice_get u.members n)))) ≡ Some t =
      sym (ap (λ c. layered at c (option_map (L.union n) (option_and_then (λ w. represented at rows w x) (member_of c n)))) is) ∙ e in
      let opened : option_and_then (composed at (D.Union u)) (option_map (L.union n) (represented at rows (plainly mem.ty) x)) ≡ Some t =
      sym (ap (λ c. option_and_then (composed at (D.Union u)) (option_map (L.union n) (option_and_then (λ w. represented at rows w x) (option_map slot_of c)))) d.3) ∙ whole in
      let layer = then_from (composed at (D.Union u)) (option_map (L.union n) (represented at rows (plainly mem.ty) x)) t opened in
      let part = map_from (L.union n) (represented at rows (plainly mem.ty) x) layer.item layer.there in
      let pd : Data = part.item in
      let made : member_form u.form pd mem ≡ Some t =
      sym (ap (option_and_then (member_form u.form pd)) d.3) ∙ ap (composed at (D.Union u)) (same_Some (L.union n pd) layer.item part.made) ∙ layer.made in
      let holds : FormFits rows room before (V.union n x) (D.Union u) = subst (FormFits rows room before (V.union n x)) d.2 m.holds in
      let inside : before 0 (plainly mem.ty) x = subst (λ c. IsSomeAnd c (λ y. before 0 (plainly y.ty) x)) d.3 holds.1 in
      let c = later at g 0 (plainly mem.ty) (plainly other.ty) x pd pair inside part.there in
      record {
        value = V.union place.place c.value;
        fits = subst (λ q. IsSomeAnd q (FormFits others room after (V.union place.place c.value))) (sym there) (holds.0, subst (λ q. IsSomeAnd q (λ y. after 0 (plainly y.ty) c.value)) (sym place.there) c.fits);
        tree =
            ap (λ q. layered at q (option_map (L.union place.place) (option_and_then (λ w. represented at others w c.value) (member_of q place.place)))) there
            ∙ ap (λ q. option_and_then (composed at (D.Union v)) (option_map (L.union place.place) (option_and_then (λ w. represented at others w c.value) (option_map slot_of q)))) place.there
            ∙ ap (λ q. option_and_then (composed at (D.Union v)) (option_map (L.union place.place) q)) c.tree
            ∙ ap (option_and_then (member_form v.form pd)) place.there
            ∙ ap (λ q. member_form q pd other) (sym form) ∙ sym (same_member u.form mem other pd found.2) ∙ made;
        shown =
            ap (λ q. map_data (option_map_or (λ (y : Member). (y.name, shown others (slot_of y) c.value) ∷ []) (member_at q place.place) [])) there
            ∙ ap (λ q. map_data (option_map_or (λ (y : Member). (y.name, shown others (slot_of y) c.value) ∷ []) q [])) place.there
            ∙ (λ i. map_data ((sym (texts_same mem.name other.name place.test) i, c.shown i) ∷ []))
            ∙ sym (ap (λ q. map_data (option_map_or (λ (y : Member). (y.name, shown rows (slot_of y) x) ∷ []) (member_at q n) [])) is
            ∙ ap (λ q. map_data (option_map_or (λ (y : Member). (y.name, shown rows (slot_of y) x) ∷ []) q [])) d.3);
        nodes = λ h q y i.
            let inner : IsIn y (nodes h others (plainly other.ty) c.value) =
            subst (λ z. IsIn y (option_map_or (λ w. nodes h others w c.value) (option_map slot_of z) [])) place.there (subst (λ z. IsIn y (option_map_or (λ w. nodes h others w c.value) (member_of z place.place) [])) there i) in
            subst (λ z. IsIn y (option_map_or (λ w. nodes h rows w x) (member_of z n) [])) (sym is) (subst (λ z. IsIn y (option_map_or (λ w. nodes h rows w x) (option_map slot_of z) [])) (sym d.3) (c.nodes h q y inner));
      }

  -- ---- lists

  pub list_carried : (at : Hamts) → Good at → (a b : Slot) (vs : Values) (t : Data) → set a b ≡ true → ValueFits rows room before a (V.list vs) → TreeIn room t → represented at rows a (V.list vs) ≡ Some t
      → Carried rows others at (ValueFits others room after) a b (V.list vs) t
  list_carried at g a b vs t s f tree e =
      let m = formed (FormFits rows room before (V.list vs)) (form_of rows a) f in
      let d = list_form rows (before (levels_of m.form (V.list vs) - 1)) m.form (values_list vs) m.holds.1 in
      let elem : Slot = d.0 in
      let is : form_of rows a ≡ Some (D.List elem d.1) = m.is ∙ ap Some d.2 in
      let k = meets rows others set closed a b (D.List elem d.1) s is in
      let holds : FormFits rows room before (V.list vs) (D.List elem d.1) = subst (FormFits rows room before (V.list vs)) d.2 m.holds in
      let opened : option_and_then (composed at (D.List elem d.1)) (option_map L.list (represented_values at rows elem vs)) ≡ Some t =
      sym (ap (λ c. layered at c (option_map L.list (option_and_then (λ u. represented_values at rows u vs) (element_of c)))) is) ∙ e in
      let layer = then_from (composed at (D.List elem d.1)) (option_map L.list (represented_values at rows elem vs)) t opened in
      let part = map_from L.list (represented_values at rows elem vs) layer.item layer.there in
      let ts : List Data = part.item in
      let made : T.list (T.items_of ts) ≡ t = same_Some (T.list (T.items_of ts)) t (ap (composed at (D.List elem d.1)) (same_Some (L.list ts) layer.item part.made) ∙ layer.made) in
      let seen : shown rows a (V.list vs) ≡ T.list (shown_values rows elem vs) = ap (λ c. T.list (option_map_or (λ u. shown_values rows u vs) (element_of c) T.no_items)) is in
      elim (with_list elem d.1 k.form k.agree) [
        | inl o ↦
            let w : Slot = o.0 in
            let there : form_of others b ≡ Some (D.List w o.1) = k.is ∙ ap Some o.2 in
            let asks : AllIn set ((elem, w) ∷ []) = subst (λ c. AllIn set (asked_of (D.List elem d.1) c)) o.2 k.asks in
            let c = values_carried at g 0 elem w asks.0 vs ts holds.1 part.there in
            record {
              value = V.list c.values;
              fits = subst (λ q. IsSomeAnd q (FormFits others room after (V.list c.values))) (sym there) (holds.0, c.fits);
              tree =
                  ap (λ q. layered at q (option_map L.list (option_and_then (λ u. represented_values at others u c.values) (element_of q)))) there
                  ∙ ap (λ q. option_and_then (composed at (D.List w o.1)) (option_map L.list q)) c.tree ∙ ap Some made;
              shown = ap (λ q. T.list (option_map_or (λ u. shown_values others u c.values) (element_of q) T.no_items)) there ∙ ap T.list c.shown ∙ sym seen;
              nodes = λ h q y i.
                  subst (λ z. IsIn y (option_map_or (λ u. nodes_of_values h rows u vs) (element_of z) [])) (sym is)
                  (c.nodes h q y (subst (λ z. IsIn y (option_map_or (λ u. nodes_of_values h others u c.values) (element_of z) [])) there i));
            }
        | inr any ↦
            let asks : AllIn set ((elem, anything) ∷ []) = subst (λ c. AllIn set (asked_of (D.List elem d.1) c)) any k.asks in
            let c = values_carried at g 0 elem anything asks.0 vs ts holds.1 part.there in
            as_any_carried at a b (V.list vs) t (k.is ∙ ap Some any) tree (subst IsNotNull made tt)
            (seen ∙ ap T.list (sym c.shown ∙ any_values_shown at others anything c.values ts first_any c.tree) ∙ made)
      ]

  -- ---- maps

  pub map_carried : (at : Hamts) → Good at → (a b : Slot) (ps : Pairs) (t : Data) → set a b ≡ true → ValueFits rows room before a (V.map ps) → TreeIn room t → represented at rows a (V.map ps) ≡ Some t
      → Carried rows others at (ValueFits others room after) a b (V.map ps) t
  map_carried at g a b ps t s f tree e =
      let m = formed (FormFits rows room before (V.map ps)) (form_of rows a) f in
      let d = map_type rows (before (levels_of m.form (V.map ps) - 1)) m.form (pairs_list ps) m.holds.1 in
      let key : TypeNo = d.0 in
      let ka : ℕ = d.1 in
      let u : Slot = d.2 in
      let up : ℕ = d.3 in
      let mf : MapForm = d.4 in
      let is : form_of rows a ≡ Some (D.Map key ka u up mf) = m.is ∙ ap Some d.5 in
      let k = meets rows others set closed a b (D.Map key ka u up mf) s is in
      let holds : FormFits rows room before (V.map ps) (D.Map key ka u up mf) = subst (FormFits rows room before (V.map ps)) d.5 m.holds in
      let entries : EntriesFit (before (map_levels mf - 1)) rows key u mf (pairs_list ps) = entries_there rows (before (map_levels mf - 1)) key u mf (pairs_list ps) holds.1 in
      let opened : option_and_then (composed at (D.Map key ka u up mf)) (option_map L.map (represented_pairs at rows u ps)) ≡ Some t =
      sym (ap (λ c. layered at c (option_map L.map (option_and_then (λ w. represented_pairs at rows w ps) (element_of c)))) is) ∙ e in
      let layer = then_from (composed at (D.Map key ka u up mf)) (option_map L.map (represented_pairs at rows u ps)) t opened in
      let part = map_from L.map (represented_pairs at rows u ps) layer.item layer.there in
      let es : List (List ℕ × Data) = part.item in
      let made : map_form at mf (L.map es) ≡ Some t = ap (composed at (D.Map key ka u up mf)) (same_Some (L.map es) layer.item part.made) ∙ layer.made in
      let seen : shown rows a (V.map ps) ≡ map_data (in_key_order (shown_pairs rows u ps)) = ap (λ c. map_data (option_map_or (λ w. in_key_order (shown_pairs rows w ps)) (element_of c) [])) is in
      elim (with_map key ka u up mf k.form k.agree) [
        | inl o ↦
            let w : Slot = o.value in
            let form : mf ≡ o.form = same_map mf o.form (sym (ap (λ c. types_agree R.Strategy (Some (D.Map key ka u up mf)) (Some c)) o.is) ∙ k.rules R.Strategy) in
            let other : k.form ≡ D.Map o.key o.key_at w o.place mf = o.is ∙ ap (λ q. D.Map o.key o.key_at w o.place q) (sym form) in
            let there : form_of others b ≡ Some (D.Map o.key o.key_at w o.place mf) = k.is ∙ ap Some other in
            let asks : AllIn set ((plainly key, plainly o.key) ∷ (u, w) ∷ []) = subst (λ c. AllIn set (asked_of (D.Map key ka u up mf) c)) other k.asks in
            let c = pairs_carried at g (map_levels mf - 1) u w asks.1.0
            (λ p. IsUtf8 p.0 × RepresentsSome (before (map_levels mf - 1)) rows (plainly key) (T.text p.0) × before (map_levels mf - 1) u p.1)
            (λ p. IsUtf8 p.0 × RepresentsSome (after (map_levels mf - 1)) others (plainly o.key) (T.text p.0) × after (map_levels mf - 1) w p.1)
            (λ q v x. x.2) (λ q v x y z. (y.0, shows_carried (map_levels mf - 1) (plainly key) (plainly o.key) (T.text q) asks.0 y.1, z)) ps es entries.1 part.there in
            record {
              value = V.map c.pairs;
              fits = subst (λ q. IsSomeAnd q (FormFits others room after (V.map c.pairs))) (sym there)
                  (holds.0, there_entries others (after (map_levels mf - 1)) o.key w mf (pairs_list c.pairs) (same_keys mf (pairs_list ps) (pairs_list c.pairs) c.keys entries.0, c.fits));
              tree =
                  ap (λ q. layered at q (option_map L.map (option_and_then (λ x. represented_pairs at others x c.pairs) (element_of q)))) there
                  ∙ ap (λ q. option_and_then (composed at (D.Map o.key o.key_at w o.place mf)) (option_map L.map q)) c.tree ∙ made;
              shown = ap (λ q. map_data (option_map_or (λ x. in_key_order (shown_pairs others x c.pairs)) (element_of q) [])) there ∙ ap (λ q. map_data (in_key_order q)) c.shown ∙ sym seen;
              nodes = λ h q y i.
                  let i2 : IsIn y (hamt_nodes h (Some (D.Map o.key o.key_at w o.place mf)) (represented_pairs (whole h) others w c.pairs) ++ nodes_of_pairs h others w c.pairs) =
                  subst (λ z. IsIn y (option_map_or (λ x. hamt_nodes h z (represented_pairs (whole h) others x c.pairs) ++ nodes_of_pairs h others x c.pairs) (element_of z) [])) there i in
                  let mine : represented_pairs (whole h) others w c.pairs ≡ Some es = subst (λ z. represented_pairs z others w c.pairs ≡ Some es) q c.tree in
                  let theirs : represented_pairs (whole h) rows u ps ≡ Some es = subst (λ z. represented_pairs z rows u ps ≡ Some es) q part.there in
                  let same : hamt_nodes h (Some (D.Map o.key o.key_at w o.place mf)) (represented_pairs (whole h) others w c.pairs) ≡ hamt_nodes h (Some (D.Map key ka u up mf)) (represented_pairs (whole h) rows u ps) =
                  ap (hamt_nodes h (Some (D.Map o.key o.key_at w o.place mf))) mine ∙ same_nodes h o.key key o.key_at ka w u o.place up mf es ∙ ap (hamt_nodes h (Some (D.Map key ka u up mf))) (sym theirs) in
                  subst (λ z. IsIn y (option_map_or (λ x. hamt_nodes h z (represented_pairs (whole h) rows x ps) ++ nodes_of_pairs h rows x ps) (element_of z) [])) (sym is)
                  (in_both y (hamt_nodes h (Some (D.Map key ka u up mf)) (represented_pairs (whole h) rows u ps)) (nodes_of_pairs h rows u ps)
                  (hamt_nodes h (Some (D.Map o.key o.key_at w o.place mf)) (represented_pairs (whole h) others w c.pairs)) (nodes_of_pairs h others w c.pairs)
                  (λ j. subst (IsIn y) same j) (c.nodes h q y) i2);
            }
        | inr any ↦
            let plain : mf ≡ MF.Map = a_map mf any.1 in
            let asks : AllIn set ((u, anything) ∷ []) =
            subst (λ z. AllIn set (cond z ((u, anything) ∷ []) [])) any.1 (subst (λ c. AllIn set (asked_of (D.Map key ka u up mf) c)) any.0 k.asks) in
            let c = pairs_carried at g (map_levels mf - 1) u anything asks.0
            (λ p. IsUtf8 p.0 × RepresentsSome (before (map_levels mf - 1)) rows (plainly key) (T.text p.0) × before (map_levels mf - 1) u p.1) (λ p. Unit {0}) (λ q v x. x.2) (λ q v x y z. tt) ps es entries.1 part.there in
            let up_keys : Rises (pairs_list ps) = subst (λ z. AreKeys z (pairs_list ps)) plain entries.0 in
            let same : shown_pairs rows u ps ≡ es = sym c.shown ∙ any_pairs_shown at others anything c.pairs es first_any c.tree in
            let data_of : map_data es ≡ t = same_Some (map_data es) t (ap (λ z. map_form at z (L.map es)) (sym plain) ∙ made) in
            as_any_carried at a b (V.map ps) t (k.is ∙ ap Some any.0) tree (subst IsNotNull data_of tt)
            (seen ∙ ap (λ z. map_data (in_key_order z)) same ∙ ap map_data (sorted_itself es (rises_pairs at rows u ps es up_keys part.there)) ∙ data_of)
      ]
    where
      a_map : (z : MapForm) → is_map z ≡ true → z ≡ MF.Map
      a_map MF.Map h = refl
      a_map z h = absurd (false≢true h)

  -- the root of a HAMT
  pub hamt_carried : (at : Hamts) (a b : Slot) (x t : Data) → set a b ≡ true → ValueFits rows room before a (V.hamt x) → represented at rows a (V.hamt x) ≡ Some t → Carried rows others at (ValueFits others room after) a b (V.hamt x) t
  hamt_carried at a b x t s f e =
      let m = formed (FormFits rows room before (V.hamt x)) (form_of rows a) f in
      let d = hamt_form rows (before (levels_of m.form (V.hamt x) - 1)) m.form x m.holds.1 in
      let key : TypeNo = d.0 in
      let u : Slot = d.2 in
      let shape : HamtShape = d.4 in
      let is : form_of rows a ≡ Some (D.Map key d.1 u d.3 (MF.Hamt shape)) = m.is ∙ ap Some d.5 in
      let k = meets rows others set closed a b (D.Map key d.1 u d.3 (MF.Hamt shape)) s is in
      let holds : FormFits rows room before (V.hamt x) (D.Map key d.1 u d.3 (MF.Hamt shape)) = subst (FormFits rows room before (V.hamt x)) d.5 m.holds in
      let root : RootFits (before 4) rows shape key u x = root_there rows (before 4) shape key u x holds.1 in
      let made : at shape (L.hamt x) ≡ Some t = sym (ap (λ c. layered at c (Some (L.hamt x))) is) ∙ e in
      elim (with_map key d.1 u d.3 (MF.Hamt shape) k.form k.agree) [
        | inl o ↦
            let w : Slot = o.value in
            let form : (MF.Hamt shape) ≡ o.form = same_map (MF.Hamt shape) o.form (sym (ap (λ c. types_agree R.Strategy (Some (D.Map key d.1 u d.3 (MF.Hamt shape))) (Some c)) o.is) ∙ k.rules R.Strategy) in
            let other : k.form ≡ D.Map o.key o.key_at w o.place (MF.Hamt shape) = o.is ∙ ap (λ q. D.Map o.key o.key_at w o.place q) (sym form) in
            let there : form_of others b ≡ Some (D.Map o.key o.key_at w o.place (MF.Hamt shape)) = k.is ∙ ap Some other in
            let asks : AllIn set ((plainly key, plainly o.key) ∷ (u, w) ∷ []) = subst (λ c. AllIn set (asked_of (D.Map key d.1 u d.3 (MF.Hamt shape)) c)) other k.asks in
            let inside : RootFits (after 4) others shape o.key w x = (
              root.0,
              root.1,
              all_more (λ r. RepresentsSome (before 4) rows (plainly key) (T.text r.0) × RepresentsSome (before 4) rows u r.1) (λ r. RepresentsSome (after 4) others (plainly o.key) (T.text r.0) × RepresentsSome (after 4) others w r.1)
                  (λ r y. (shows_carried 4 (plainly key) (plainly o.key) (T.text r.0) asks.0 y.0, shows_carried 4 u w r.1 asks.1.0 y.1)) (N.entries_in root.0) root.2,
            ) in
            keep at a b (V.hamt x) t (L.hamt x) (D.Map o.key o.key_at w o.place (MF.Hamt shape)) (λ h. h) refl there (holds.0, inr inside) made refl (λ h n i. i)
        | inr any ↦ absurd (false≢true any.1)
      ]
