-- The representation of a value is a tree, and nests no deeper than the room in which the value fits. One step is a layer;
-- what stands for a HAMT is an argument.
use Rattle.std.proofs.Common.{◌≡◌, ℕ, zero, suc, ◌+◌, ◌-◌, ◌≤◌, List, [], ◌∷◌, Option, Some, None, option_map, refl, sym, ◌∙◌, ap, subst, arith}
use Rattle.std.specs.Prelude.{IsSomeAnd}
use Rattle.std.specs.List.{AllByRecursion}
use Rattle.std.proofs.lemmas.Option.{same_Some, none-some}
use Rattle.ild_data.specs.Data as T
use Rattle.ild_data.specs.Data.{Data, depth}
use Rattle.ild_data.specs.Key.{Rises}
use Rattle.ild_data.specs.Tree.{IsTree}
use Rattle.ild_data.specs.declared.hamt_shape.HamtShape.{HamtShape}
use Rattle.ild_schema.specs.declared.number.Slot.{Slot}
use Rattle.ild_schema.specs.declared.number.TypeNo.{TypeNo}
use Rattle.ild_schema.specs.declared.def.TypeDef.{TypeDef}
use Rattle.ild_schema.specs.declared.def.TypeDef.TheVariants as D
use Rattle.ild_schema.specs.declared.def.MapForm.TheVariants as MF
use Rattle.ild_schema.specs.declared.row.Row.{Row}
use Rattle.ild_schema.specs.Copies.{base}
use Rattle.ild_schema.specs.Value as V
use Rattle.ild_schema.specs.Value.{Value, Values, Pairs, Optionals, values_list, pairs_list, optionals_list}
use Rattle.ild_typed.specs.Layer as L
use Rattle.ild_typed.specs.Layer.{Layer, as_map, as_hamt, as_any}
use Rattle.ild_schema.specs.Slots.{form_of, plainly}
use Rattle.ild_typed.specs.Slots.{slot_of, element_of, fields_of, member_of}
use Rattle.ild_typed.specs.Composed.{Hamts}
use Rattle.ild_typed.specs.Hamt.{whole, alone, a_map}
use Rattle.ild_typed.specs.Node.{entries_in}
use Rattle.ild_typed.specs.Represented.{represented, represented_pairs, represented_fields}
use Rattle.ild_typed.specs.Levels.{levels_of}
use Rattle.ild_typed.specs.Fits.{FormFits, ValueFits, FitsPast, Fits}
use Rattle.ild_typed.specs.Layers.{RepresentsSome, RootFits, LayerFits}
use Rattle.ild_typed.specs.Nested.{TreeIn}
use Rattle.ild_schema.specs.Spelled.{IsSpelled}
use Rattle.ild_typed.proofs.Basics.{map_from}
use Rattle.ild_typed.proofs.PartData.{values_data, pairs_data, member_data}
use Rattle.ild_typed.proofs.OneValue.{Way, as_null, as_layer, way_of, layer_data}
use Rattle.ild_typed.proofs.Treed.{EntryIn, LayerTrees, TypeMore, IsEnough, composed_in}
use Rattle.ild_typed.proofs.TreeNodes.{front_in, whole_in}
use Rattle.ild_typed.proofs.TreeParts.{KeysFit, RootOf, list_fits, struct_fits, union_fits, map_fits, hamt_fits, no_type_map, text_fits, bytes_fit, link_fits, int_fits, any_fits, rises_pairs, values_in, pairs_in, fields_in}

-- ---- room

room_enough : (room levels least : ℕ) → least ≤ levels → levels ≤ room → (room - suc (levels - 1)) + least ≤ room
room_enough room levels least a b = omega (arith, a, b)

least_levels : (d : TypeDef) (v : Value) → levels_of d V.null ≤ levels_of d v
least_levels D.Any v = omega arith
least_levels d v = omega arith

not_any : {A : Type 0} (f : A → Layer Data) (o : Option A) (l : Layer Data) (x : Data) → ((a : A) → as_any (f a) ≡ None) → option_map f o ≡ Some l → as_any l ≡ Some x → ⊥
not_any f o l x never e h =
    let y = map_from f o l e in none-some x (sym (never y.item) ∙ ap as_any (same_Some (f y.item) l y.made) ∙ h)

any_levels_is : (at : Hamts) (rows : List Row) (v : Value) (l : Layer Data) (x : Data) → layer_data at rows (Some D.Any) v ≡ Some l → as_any l ≡ Some x → depth x ≡ levels_of D.Any v
any_levels_is at rows V.null l x e h = absurd (none-some l e)
any_levels_is at rows (V.any y) l x e h = ap depth (sym (same_Some y x (ap as_any (same_Some (L.any y) l e) ∙ h)))
any_levels_is at rows (V.list vs) l x e h = absurd (not_any L.list (values_data at rows (element_of (Some D.Any)) vs) l x (λ a. refl) e h)
any_levels_is at rows (V.map ps) l x e h = absurd (not_any L.map (pairs_data at rows (element_of (Some D.Any)) ps) l x (λ a. refl) e h)
any_levels_is at rows (V.struct os) l x e h = absurd (not_any L.struct (represented_fields at rows (fields_of (Some D.Any)) os) l x (λ a. refl) e h)
any_levels_is at rows (V.union n v) l x e h = absurd (not_any (L.union n) (member_data at rows (member_of (Some D.Any) n) v) l x (λ a. refl) e h)
any_levels_is at rows (V.boolean b) l x e h = absurd (none-some x (ap as_any (same_Some (L.boolean b) l e) ∙ h))
any_levels_is at rows (V.integer b) l x e h = absurd (none-some x (ap as_any (same_Some (L.integer b) l e) ∙ h))
any_levels_is at rows (V.text b) l x e h = absurd (none-some x (ap as_any (same_Some (L.text b) l e) ∙ h))
any_levels_is at rows (V.bytes b) l x e h = absurd (none-some x (ap as_any (same_Some (L.bytes b) l e) ∙ h))
any_levels_is at rows (V.link b) l x e h = absurd (none-some x (ap as_any (same_Some (L.link b) l e) ∙ h))
any_levels_is at rows (V.enum b) l x e h = absurd (none-some x (ap as_any (same_Some (L.enum b) l e) ∙ h))
any_levels_is at rows (V.hamt b) l x e h = absurd (none-some x (ap as_any (same_Some (L.hamt b) l e) ∙ h))
any_levels_is at rows V.unit l x e h = absurd (none-some x (ap as_any (same_Some L.unit l e) ∙ h))

enough : (at : Hamts) (rows : List Row) (room : ℕ) (d : TypeDef) (v : Value) (l : Layer Data) → levels_of d v ≤ room → layer_data at rows (Some d) v ≡ Some l → IsEnough (room - suc (levels_of d v - 1)) room d l
enough at rows room D.Any v l le e = λ x h. let same = any_levels_is at rows v l x e h in omega (arith, same, le)
enough at rows room d v l le e = room_enough room (levels_of d v) (levels_of d V.null) (least_levels d v) le

-- what fits is of its form
pub form_fits : (rows : List Row) (room : ℕ) (below : ℕ → Slot → Value → Type 0) (at : Hamts) (s : Slot) (d : TypeDef) (v : Value) (l : Layer Data)
    → form_of rows s ≡ Some d → layer_data at rows (Some d) v ≡ Some l → ValueFits rows room below s v → FormFits rows room below v d
form_fits rows room below at s d V.null l is e h = absurd (none-some l e)
form_fits rows room below at s d v l is e h = subst (λ o. IsSomeAnd o (FormFits rows room below v)) is h

module _ (at : Hamts) (rows : List Row) (spelled : IsSpelled rows)
    (entries : (p : HamtShape) (n : ℕ) (es : List (List ℕ × Data)) (t : Data) → AllByRecursion (EntryIn n) es → at p (L.map es) ≡ Some t → TreeIn (n + 5) t) where
  module _ (room : ℕ) (below : ℕ → Slot → Value → Type 0)
      (good : (o : ℕ) (s : Slot) (v : Value) (t : Data) → below o s v → represented at rows s v ≡ Some t → IsTree t × (suc (depth t + o) ≤ room))
      (front : (n : ℕ) → 5 ≤ room → ((s : Slot) (v : Value) (t : Data) → below 4 s v → represented at rows s v ≡ Some t → TreeIn n t)
      → (p : HamtShape) (key : TypeNo) (value : Slot) (x t : Data) → RootFits (below 4) rows p key value x → at p (L.hamt x) ≡ Some t → TreeIn (n + 5) t) where
    good_part : (o : ℕ) (s : Slot) (v : Value) (t : Data) → below o s v → represented at rows s v ≡ Some t → TreeIn (room - suc o) t
    good_part o s v t b e = let g = good o s v t b e in record { tree = g.0; nested = omega (arith, g.1) }

    Found : TypeDef → Value → Layer Data → Type 0
    Found d v l = LayerTrees (room - suc (levels_of d v - 1)) l × TypeMore at (room - suc (levels_of d v - 1)) d l

    more_none : (fits : Slot → Value → Type 0) (n : ℕ) (d : TypeDef) (m : Layer Value) (l : Layer Data) → as_map m ≡ None → as_hamt m ≡ None → LayerFits fits rows d m → TypeMore at n d l
    more_none fits n (D.Map key key_at value place form) m l a b h = absurd (no_type_map fits rows (D.Map key key_at value place form) m a b h key key_at value place form refl)
    more_none fits n d m l a b h = tt

    more_map : (n : ℕ) (d : TypeDef) (u : Slot) (ps : Pairs) (ds : List (List ℕ × Data)) → KeysFit d (pairs_list ps) → represented_pairs at rows u ps ≡ Some ds → AllByRecursion (EntryIn n) ds → TypeMore at n d (L.map ds)
    more_map n (D.Map key key_at value place MF.Map) u ps ds keys e all = λ qs h. subst Rises (same_Some ds qs h) (rises_pairs at rows u ps ds keys e)
    more_map n (D.Map key key_at value place (MF.Hamt p)) u ps ds keys e all = λ t h. entries p n ds t all h
    more_map n (D.Map key key_at value place MF.ListPairs) u ps ds keys e all = tt
    more_map n (D.Map key key_at value place (MF.StringPairs i k)) u ps ds keys e all = tt
    more_map n d u ps ds keys e all = tt

    more_hamt : (d : TypeDef) (x : Data) → levels_of d (V.hamt x) ≤ room → RootOf (below (levels_of d (V.hamt x) - 1)) rows d x → TypeMore at (room - suc (levels_of d (V.hamt x) - 1)) d (L.hamt x)
    more_hamt (D.Map key key_at value place (MF.Hamt p)) x le root = λ t h. front (room - 5) le (good_part 4) p key value x t root h
    more_hamt (D.Map key key_at value place MF.Map) x le root = absurd root
    more_hamt (D.Map key key_at value place MF.ListPairs) x le root = absurd root
    more_hamt (D.Map key key_at value place (MF.StringPairs i k)) x le root = absurd root
    more_hamt d x le root = absurd root

    parts_in : (v : Value) (d : TypeDef) (l : Layer Data) → FormFits rows room below v d → layer_data at rows (Some d) v ≡ Some l → Found d v l
    unfolding Found
    parts_in V.null d l f e = absurd (none-some l e)
    parts_in (V.list vs) d l f e =
        let o = levels_of d (V.list vs) - 1 in
        let x = map_from L.list (values_data at rows (element_of (Some d)) vs) l e in
        let z = list_fits (below o) rows d (values_list vs) f.1 in
        let all = values_in at rows (below o) (room - suc o) (good_part o) z.slot vs x.item z.each (ap (λ k. values_data at rows k vs) (sym z.is) ∙ x.there) in
        subst (Found d (V.list vs)) (same_Some (L.list x.item) l x.made) (all, more_none (below o) (room - suc o) d (L.list (values_list vs)) (L.list x.item) refl refl f.1)
    parts_in (V.map ps) d l f e =
        let o = levels_of d (V.map ps) - 1 in
        let x = map_from L.map (pairs_data at rows (element_of (Some d)) ps) l e in
        let m = map_fits (below o) rows d (pairs_list ps) f.1 in
        let there = ap (λ k. pairs_data at rows k ps) (sym m.is) ∙ x.there in
        let all = pairs_in at rows (below o) (room - suc o) (good_part o) m.slot ps x.item m.each there in
        subst (Found d (V.map ps)) (same_Some (L.map x.item) l x.made) (all, more_map (room - suc o) d m.slot ps x.item m.keys there all)
    parts_in (V.struct os) d l f e =
        let o = levels_of d (V.struct os) - 1 in
        let x = map_from L.struct (represented_fields at rows (fields_of (Some d)) os) l e in
        let all = fields_in at rows (below o) (room - suc o) (good_part o) (fields_of (Some d)) os x.item (struct_fits (below o) rows d (optionals_list os) f.1) x.there in
        subst (Found d (V.struct os)) (same_Some (L.struct x.item) l x.made) (all, more_none (below o) (room - suc o) d (L.struct (optionals_list os)) (L.struct x.item) refl refl f.1)
    parts_in (V.union i v) d l f e =
        let o = levels_of d (V.union i v) - 1 in
        let x = map_from (L.union i) (member_data at rows (member_of (Some d) i) v) l e in
        let z = union_fits (below o) rows d i v f.1 in
        let all = good_part o (slot_of z.member) v x.item z.holds (ap (λ k. member_data at rows (option_map slot_of k) v) (sym z.is) ∙ x.there) in
        subst (Found d (V.union i v)) (same_Some (L.union i x.item) l x.made) (all, more_none (below o) (room - suc o) d (L.union i v) (L.union i x.item) refl refl f.1)
    parts_in (V.hamt x) d l f e =
        let o = levels_of d (V.hamt x) - 1 in
        subst (Found d (V.hamt x)) (same_Some (L.hamt x) l e) (tt, more_hamt d x f.0 (hamt_fits (below o) rows d x f.1))
    parts_in (V.boolean b) d l f e =
        let o = levels_of d (V.boolean b) - 1 in
        subst (Found d (V.boolean b)) (same_Some (L.boolean b) l e) (tt, more_none (below o) (room - suc o) d (L.boolean b) (L.boolean b) refl refl f.1)
    parts_in (V.integer b) d l f e =
        let o = levels_of d (V.integer b) - 1 in
        subst (Found d (V.integer b)) (same_Some (L.integer b) l e) (int_fits (below o) rows d b f.1, more_none (below o) (room - suc o) d (L.integer b) (L.integer b) refl refl f.1)
    parts_in (V.text b) d l f e =
        let o = levels_of d (V.text b) - 1 in
        subst (Found d (V.text b)) (same_Some (L.text b) l e) (text_fits (below o) rows d b f.1, more_none (below o) (room - suc o) d (L.text b) (L.text b) refl refl f.1)
    parts_in (V.bytes b) d l f e =
        let o = levels_of d (V.bytes b) - 1 in
        subst (Found d (V.bytes b)) (same_Some (L.bytes b) l e) (bytes_fit (below o) rows d b f.1, more_none (below o) (room - suc o) d (L.bytes b) (L.bytes b) refl refl f.1)
    parts_in (V.link b) d l f e =
        let o = levels_of d (V.link b) - 1 in
        subst (Found d (V.link b)) (same_Some (L.link b) l e) (link_fits (below o) rows d b f.1, more_none (below o) (room - suc o) d (L.link b) (L.link b) refl refl f.1)
    parts_in (V.any b) d l f e =
        let o = levels_of d (V.any b) - 1 in
        subst (Found d (V.any b)) (same_Some (L.any b) l e) (any_fits (below o) rows d b f.1, more_none (below o) (room - suc o) d (L.any b) (L.any b) refl refl f.1)
    parts_in (V.enum b) d l f e =
        let o = levels_of d (V.enum b) - 1 in
        subst (Found d (V.enum b)) (same_Some (L.enum b) l e) (tt, more_none (below o) (room - suc o) d (L.enum b) (L.enum b) refl refl f.1)
    parts_in V.unit d l f e =
        let o = levels_of d V.unit - 1 in
        subst (Found d V.unit) (same_Some L.unit l e) (tt, more_none (below o) (room - suc o) d L.unit L.unit refl refl f.1)

    -- a value whose parts are represented by trees
    pub value_in : (s : Slot) (v : Value) (t : Data) → ValueFits rows room below s v → represented at rows s v ≡ Some t → TreeIn room t
    unfolding Found
    value_in s v t h e = by (way_of at rows s v t e) where
      by : Way at rows s v t → TreeIn room t
      by (as_null v_null nullable is_null) = subst (TreeIn room) (sym is_null) (record { tree = tt; nested = omega arith })
      by (as_layer d l is there made) =
          let f = form_fits rows room below at s d v l is there h in
          let p = parts_in v d l f there in
          composed_in at (room - suc (levels_of d v - 1)) room d l t (spelled (base rows s.ty.0) d is) p.0 p.1 (enough at rows room d v l f.0 there) made

  module _ (front : (room n : ℕ) → ((s : Slot) (v : Value) (t : Data) → FitsPast rows room 4 s v → represented at rows s v ≡ Some t → TreeIn n t)
      → (p : HamtShape) (key : TypeNo) (value : Slot) (x t : Data) → RootFits (FitsPast rows room 4) rows p key value x → at p (L.hamt x) ≡ Some t → TreeIn (n + 5) t) where
    no_room : 5 ≤ 0 → ⊥
    no_room le = omega (arith, le)

    pub past_in : (room over : ℕ) (s : Slot) (v : Value) (t : Data) → FitsPast rows room over s v → represented at rows s v ≡ Some t → IsTree t × (depth t + over ≤ room)
    unfolding FitsPast
    past_in zero zero s v t f e =
        let x = value_in zero (λ over u w. ⊥) (λ o u w d b h. absurd b) (λ n le rest. absurd (no_room le)) s v t f e in (x.tree, omega (arith, x.nested))
    past_in zero (suc over) s v t f e = absurd f
    past_in (suc room) zero s v t f e =
        let x = value_in (suc room) (FitsPast rows room) (λ o u w d b h. let g = past_in room o u w d b h in (g.0, omega (arith, g.1))) (λ n le. front room n) s v t f e in (x.tree, omega (arith, x.nested))
    past_in (suc room) (suc over) s v t f e = let g = past_in room over s v t f e in (g.0, omega (arith, g.1))

    pub fits_in : (room : ℕ) (s : Slot) (v : Value) (t : Data) → Fits rows room s v → represented at rows s v ≡ Some t → TreeIn room t
    fits_in room s v t f e = let g = past_in room zero s v t f e in record { tree = g.0; nested = omega (arith, g.1) }

-- ---- fronts

entries_shown : (rows : List Row) (fits : Slot → Value → Type 0) (n : ℕ) → ((s : Slot) (v : Value) (t : Data) → fits s v → represented alone rows s v ≡ Some t → TreeIn n t) → (key value : Slot) (es : List (List ℕ × Data))
    → AllByRecursion (λ e. RepresentsSome fits rows key (T.text e.0) × RepresentsSome fits rows value e.1) es → AllByRecursion (λ e. TreeIn n e.1) es
entries_shown rows fits n good key value [] all = tt
entries_shown rows fits n good key value (e ∷ es) all = (by all.0.1, entries_shown rows fits n good key value es all.1) where
  by : RepresentsSome fits rows value e.1 → TreeIn n e.1
  by (v, f, h) = good value v e.1 f h

map_itself : (x t : Data) → a_map x ≡ Some t → x ≡ t
map_itself (T.map ms) t e = same_Some (T.map ms) t e
map_itself x t e = absurd (none-some t e)

front_trees : (rows : List Row) (fits : Slot → Value → Type 0) (n : ℕ) → ((s : Slot) (v : Value) (t : Data) → fits s v → represented alone rows s v ≡ Some t → TreeIn n t)
    → (p : HamtShape) (key : TypeNo) (value : Slot) (x t : Data) → RootFits fits rows p key value x → alone p (L.hamt x) ≡ Some t → TreeIn (n + 5) t
front_trees rows fits n good p key value x t (slots, root, all) e =
    subst (TreeIn (n + 5)) (map_itself x t e) (front_in p n slots x root (entries_shown rows fits n good (plainly key) value (entries_in slots) all))

pub alone_tree : (rows : List Row) → IsSpelled rows → (room : ℕ) (s : Slot) (v : Value) (t : Data) → Fits rows room s v → represented alone rows s v ≡ Some t → TreeIn room t
alone_tree rows spelled = fits_in alone rows spelled (λ p n es t all e. absurd (none-some t e)) (λ room n good. front_trees rows (FitsPast rows room 4) n good)

-- ---- whole values

pub whole_past : (h : List ℕ → List ℕ) (rows : List Row) → IsSpelled rows → (room over : ℕ) (s : Slot) (v : Value) (t : Data) → FitsPast rows room over s v → represented (whole h) rows s v ≡ Some t → IsTree t × (depth t + over ≤ room)
whole_past h rows spelled = past_in (whole h) rows spelled (λ p n es t all e. whole_in h p n es t all e) (λ room n good p key value x t root e. absurd (none-some t e))

pub whole_tree : (h : List ℕ → List ℕ) (rows : List Row) → IsSpelled rows → (room : ℕ) (s : Slot) (v : Value) (t : Data) → Fits rows room s v → represented (whole h) rows s v ≡ Some t → TreeIn room t
whole_tree h rows spelled = fits_in (whole h) rows spelled (λ p n es t all e. whole_in h p n es t all e) (λ room n good p key value x t root e. absurd (none-some t e))
