-- To fit in a room is a judgement by layers.
use Rattle.std.proofs.Common.{cond, ◌≡◌, ℕ, zero, suc, ◌+◌, ◌-◌, ◌≤◌, List, [], ◌∷◌, slice_get, Bool, true, false, Option, Some, None, refl, ap, sym, subst, ◌∙◌, arith, max}
use Rattle.std.specs.Prelude.{IsSomeAnd, IsUtf8, slice_set, option_map, option_and_then}
use Rattle.std.specs.List.{AllByRecursion}
use Rattle.std.specs.Option.{option_map_or}
use Rattle.std.proofs.lemmas.Option.{same_Some, none-some}
use Rattle.ild_schema.proofs.Parts.{values_list-values_of, pairs_list-pairs_of, optionals_list-optionals_of}
use Rattle.ild_data.specs.Data as D
use Rattle.ild_data.specs.Data.{Data, Items, no_items, item, Members, no_members, member as entry, items_list, items_of, members_list, members_of, depth, items_depth, members_depth}
use Rattle.ild_data.specs.Key.{same_text, value_at}
use Rattle.ild_data.specs.Tree.{IsTree}
use Rattle.ild_data.proofs.Lists.{items_of-items_list, members_of-members_list}
use Rattle.ild_schema.specs.declared.number.Slot.{Slot}
use Rattle.ild_schema.specs.declared.number.TypeNo.{TypeNo}
use Rattle.ild_schema.specs.declared.def.TypeDef.{TypeDef}
use Rattle.ild_schema.specs.declared.def.TypeDef.TheVariants as T
use Rattle.ild_schema.specs.declared.def.MapForm.{MapForm}
use Rattle.ild_schema.specs.declared.def.MapForm.TheVariants as M
use Rattle.ild_schema.specs.declared.def.StructForm.{StructForm}
use Rattle.ild_schema.specs.declared.def.StructForm.TheVariants as S
use Rattle.ild_schema.specs.declared.def.Field.{Field}
use Rattle.ild_schema.specs.declared.def.Member.{Member}
use Rattle.ild_schema.specs.declared.row.Row.{Row}
use Rattle.ild_schema.specs.Prelude.{anything}
use Rattle.ild_schema.specs.Value.{Value, Values, Pairs, Optionals, null, boolean, integer, text, bytes, link, list, map, struct, union, enum, unit, any, hamt, values_list, values_of, pairs_list, pairs_of, optionals_list, optionals_of}
use Rattle.ild_typed.specs.Layer as L
use Rattle.ild_typed.specs.Layer.{Layer}
use Rattle.ild_schema.specs.Slots.{form_of, plainly}
use Rattle.ild_typed.specs.Levels.{levels_of, map_levels, struct_levels}
use Rattle.ild_typed.specs.Layers.{layer_of, IsNotNull, RepresentsSome, FieldsFit, EntriesFit, LayerFits}
use Rattle.ild_typed.specs.Fits.{FormFits, ValueFits, FitsPast, Fits}
use Rattle.ild_typed.proofs.Rooms.{layer_more, fits_more}
use Rattle.ild_typed.specs.Holder.{member, list_holder, map_holder, struct_holder, union_holder, holder_of, value_of, is_paired, of_any}
use Rattle.ild_typed.specs.Segment.{part, set_part, set_field, field_at, member_named, put_by, at_index, index_of}
use Rattle.ild_typed.specs.At.{InSlot}
use Rattle.ild_typed.specs.OfType.{TestsKeys}
use Rattle.ild_typed.specs.Schema.{IsSchema}
use Rattle.ild_path_edits.proofs.Layering.{IsLayered}
use Rattle.ild_path_edits.specs.Along.{taken, room_below, IsInRoom}
use Rattle.ild_path_edits.specs.AlongLaws.{DepthAlong}
use Rattle.ild_typed.specs.OfType.{OfType}
use Rattle.ild_typed.proofs.FormOf.{there_entries, list_form, map_form, struct_form, union_form, any_form}
use Rattle.ild_path_edits.proofs.Judging.{judged_by_tests}
use Rattle.ild_path_edits.proofs.KeepTyped.{of_type_is_kept}
use Rattle.ild_value_meaning.proofs.Told.{told}
use Rattle.ild_typed.proofs.OneLayer.{in_layer, past_over, from_form}
use Rattle.ild_value_meaning.proofs.TypedByParts.{keys_ordered, ordered_keys}
use Rattle.ild_path_edits.proofs.Typing.{trees_each, EntryIsTree, entries_each, each_got, each_with, each_at, each_by, each_found, in_order_put}
use Rattle.ild_path_edits.proofs.HeldTyped.{with_slot, indexed, held_is}

-- what is left in a room behind what was passed over
past_left : (rows : List Row) (over room n : ℕ) → n ≡ room - over → (s : Slot) (w : Value) → FitsPast rows room over s w → Fits rows n s w
unfolding FitsPast
past_left rows zero room n e s w h = subst (λ k. FitsPast rows k zero s w) (same room n e) h
  where
    same : (room n : ℕ) → n ≡ room - zero → room ≡ n
    same room n e = omega (arith, e)
past_left rows (suc over) zero n e s w h = absurd h
past_left rows (suc over) (suc room) n e s w h = past_left rows over room n (less room over n e) s w h
  where
    less : (room over n : ℕ) → n ≡ suc room - suc over → n ≡ room - over
    less room over n e = omega (arith, e)

-- a layer in a room, and its parts in what it leaves
pub record AtRoom (rows : List Row) (i : ℕ) (s : Slot) (v : Value) (l : Layer Value) : Type 0 where
  pub ty : TypeDef
  pub form : form_of rows s ≡ Some ty
  pub levels : levels_of ty v ≤ i
  pub holds : LayerFits (λ t w. Fits rows (i - levels_of ty v) t w) rows ty l

module _ (rows : List Row) (i : ℕ) (below : ℕ → Slot → Value → Type 0)
    (left : (n : ℕ) → n ≤ i → (s : Slot) (w : Value) → below (n - 1) s w → Fits rows (i - n) s w) where
  form_room : (s : Slot) (v : Value) (l : Layer Value) → layer_of v ≡ Some l → (o : Option TypeDef) → form_of rows s ≡ o → IsSomeAnd o (FormFits rows i below v) → AtRoom rows i s v l
  form_room s v l e None f h = absurd h
  form_room s v l e (Some d) f h = record {
    ty = d;
    form = f;
    levels = h.0;
    holds = layer_more rows (below (levels_of d v - 1)) (λ t w. Fits rows (i - levels_of d v) t w) (λ t w k. left (levels_of d v) h.0 t w k) d l
        (subst (λ o. IsSomeAnd o (LayerFits (below (levels_of d v - 1)) rows d)) e h.1);
  }

  value_room : (s : Slot) (v : Value) (l : Layer Value) → layer_of v ≡ Some l → ValueFits rows i below s v → AtRoom rows i s v l
  value_room s null l e h = absurd (none-some l e)
  value_room s v l e h = form_room s v l e (form_of rows s) refl h

left_more : (room n : ℕ) → room - (n - 1) ≤ suc room - n
left_more room n = omega (arith)

room_of : (rows : List Row) (i : ℕ) (s : Slot) (v : Value) (l : Layer Value) → layer_of v ≡ Some l → Fits rows i s v → AtRoom rows i s v l
unfolding FitsPast
room_of rows zero s v l e h = value_room rows zero (λ over t w. ⊥) (λ n le t w k. absurd k) s v l e h
room_of rows (suc room) s v l e h =
    value_room rows (suc room) (FitsPast rows room)
    (λ n le t w k. fits_more rows (room - (n - 1)) (suc room - n) (left_more room n) t w (past_left rows (n - 1) room (room - (n - 1)) refl t w k)) s v l e h

-- and back, where the form takes a level
rejoined : (room n : ℕ) → n ≤ suc room → 1 ≤ n → room ≡ (suc room - n) + (n - 1)
rejoined room n le one = omega (arith, le, one)

no_room : (n : ℕ) → n ≤ zero → 1 ≤ n → ⊥
no_room n le one = omega (arith, le, one)

of_room : (rows : List Row) (i : ℕ) (s : Slot) (v : Value) (d : TypeDef) (l : Layer Value) (n : ℕ) → n ≡ levels_of d v → 1 ≤ n → form_of rows s ≡ Some d → layer_of v ≡ Some l → n ≤ i
    → LayerFits (λ t w. Fits rows (i - n) t w) rows d l → Fits rows i s v
unfolding FitsPast
of_room rows zero s v d l n same one f e le h = absurd (no_room n le one)
of_room rows (suc room) s v d l n same one f e le h =
    from_form rows (suc room) (FitsPast rows room) s v l e
    (subst (λ o. IsSomeAnd o (FormFits rows (suc room) (FitsPast rows room) v)) (sym f) (
      subst (λ k. k ≤ suc room) same le,
      subst (λ o. IsSomeAnd o (LayerFits (FitsPast rows room (levels_of d v - 1)) rows d)) (sym e)
          (subst (λ k. LayerFits (FitsPast rows room (k - 1)) rows d l) same
          (layer_more rows (λ t w. Fits rows (suc room - n) t w) (FitsPast rows room (n - 1)) (λ t w k. past_over rows (n - 1) (suc room - n) room (rejoined room n le one) t w k) d l h)),
    ))

-- data of Any
any_fits : (rows : List Row) (i : ℕ) (s : Slot) (d : Data) → form_of rows s ≡ Some T.Any → depth d ≤ i → IsTree d → IsNotNull d → Fits rows i s (any d)
unfolding FitsPast
any_fits rows zero s d f le tree given = subst (λ o. IsSomeAnd o (FormFits rows zero (λ over t w. ⊥) (any d))) (sym f) (le, (tree, given))
any_fits rows (suc room) s d f le tree given = subst (λ o. IsSomeAnd o (FormFits rows (suc room) (FitsPast rows room) (any d))) (sym f) (le, (tree, given))

null_fits : (rows : List Row) (i : ℕ) (s : Slot) → s.nullable ≡ true → Fits rows i s null
unfolding FitsPast
null_fits rows zero s h = h
null_fits rows (suc room) s h = h

-- the levels of forms that hold parts
one_map : (f : MapForm) → 1 ≤ map_levels f
one_map M.Map = omega (arith)
one_map M.ListPairs = omega (arith)
one_map (M.StringPairs inner e) = omega (arith)
one_map (M.Hamt p) = omega (arith)

one_struct : (f : StructForm) → 1 ≤ struct_levels f
one_struct S.Map = omega (arith)
one_struct S.Tuple = omega (arith)
one_struct S.ListPairs = omega (arith)
one_struct (S.StringPairs inner e) = omega (arith)
one_struct (S.StringJoin delim) = omega (arith)

-- how deep parts of data nest
item_depth : (ds : Items) (k : ℕ) (e : Data) → slice_get (items_list ds) k ≡ Some e → depth e ≤ items_depth ds
item_depth no_items k e h = absurd (none-some e h)
item_depth (item d ds) zero e h = subst (λ x. depth x ≤ items_depth (item d ds)) (same_Some d e h) (first (depth d) (items_depth ds))
  where
    first : (a b : ℕ) → a ≤ max a b
    first a b = omega (arith)
item_depth (item d ds) (suc k) e h = next (depth e) (depth d) (items_depth ds) (item_depth ds k e h)
  where
    next : (c a b : ℕ) → c ≤ b → c ≤ max a b
    next c a b h = omega (arith, h)

member_depth : (k : List ℕ) (ms : Members) (e : Data) → value_at k (members_list ms) ≡ Some e → depth e ≤ members_depth ms
member_depth k no_members e h = absurd (none-some e h)
member_depth k (entry j d ms) e h = by (same_text k j) h (λ g. member_depth k ms e g)
  where
    first : (a b : ℕ) → a ≤ max a b
    first a b = omega (arith)

    next : (c a b : ℕ) → c ≤ b → c ≤ max a b
    next c a b h = omega (arith, h)

    by : (b : Bool) → cond b (Some d) (value_at k (members_list ms)) ≡ Some e → (value_at k (members_list ms) ≡ Some e → depth e ≤ members_depth ms) → depth e ≤ max (depth d) (members_depth ms)
    by true g rest = subst (λ x. depth x ≤ max (depth d) (members_depth ms)) (same_Some d e g) (first (depth d) (members_depth ms))
    by false g rest = next (depth e) (depth d) (members_depth ms) (rest g)

one_less : (a b i : ℕ) → a ≤ b → b + 1 ≤ i → a ≤ i - 1
one_less a b i p q = omega (arith, p, q)

-- fields
module _ (P : Slot → Value → Type 0) where
  field_first : (s : List ℕ) (f : Field) (fs : List Field) (o : Option Value) (os : List (Option Value)) (q : InSlot) (b : Bool) → FieldsFit P (f ∷ fs) (o ∷ os)
      → cond b (option_map (λ v. (f.slot, v)) o) (field_at s fs os) ≡ Some q → (FieldsFit P fs os → field_at s fs os ≡ Some q → P q.0 q.1) → P q.0 q.1
  field_first s f fs None os q true h e rest = absurd (none-some q e)
  field_first s f fs (Some v) os q true h e rest = subst (λ (r : InSlot). P r.0 r.1) (same_Some (f.slot, v) q e) h.0
  field_first s f fs None os q false h e rest = rest h.1 e
  field_first s f fs (Some v) os q false h e rest = rest h.1 e

  field_part : (s : List ℕ) (fs : List Field) (os : List (Option Value)) (q : InSlot) → FieldsFit P fs os → field_at s fs os ≡ Some q → P q.0 q.1
  field_part s [] os q h e = absurd (none-some q e)
  field_part s (f ∷ fs) [] q h e = absurd (none-some q e)
  field_part s (f ∷ fs) (o ∷ os) q h e = field_first s f fs o os q (same_text s f.name) h e (λ g k. field_part s fs os q g k)

  set_first : (s : List ℕ) (c : Value) (f : Field) (fs : List Field) (o : Option Value) (os : List (Option Value)) (q : InSlot) (b : Bool) → FieldsFit P (f ∷ fs) (o ∷ os)
      → cond b (option_map (λ v. (f.slot, v)) o) (field_at s fs os) ≡ Some q → P q.0 c → (FieldsFit P fs os → field_at s fs os ≡ Some q → FieldsFit P fs (set_field s (Some c) fs os))
      → FieldsFit P (f ∷ fs) (cond b (Some c ∷ os) (o ∷ set_field s (Some c) fs os))
  set_first s c f fs None os q true h e new rest = absurd (none-some q e)
  set_first s c f fs (Some v) os q true h e new rest = (subst (λ r. P r c) (λ k. (sym (same_Some (f.slot, v) q e) k).0) new, h.1)
  set_first s c f fs None os q false h e new rest = (h.0, rest h.1 e)
  set_first s c f fs (Some v) os q false h e new rest = (h.0, rest h.1 e)

  field_set : (s : List ℕ) (c : Value) (fs : List Field) (os : List (Option Value)) (q : InSlot) → FieldsFit P fs os → field_at s fs os ≡ Some q → P q.0 c → FieldsFit P fs (set_field s (Some c) fs os)
  field_set s c [] os q h e new = absurd (none-some q e)
  field_set s c (f ∷ fs) [] q h e new = absurd (none-some q e)
  field_set s c (f ∷ fs) (o ∷ os) q h e new = set_first s c f fs o os q (same_text s f.name) h e new (λ g k. field_set s c fs os q g k new)

module _ (rows : List Row) (is_key : ℕ → List ℕ → Bool) (schema : IsSchema rows) (keys : TestsKeys rows is_key) where
  abbrev Left : ℕ → Slot → Slot → Value → Type 0
  Left i slot s w = Fits rows (i - taken (form_of rows slot)) s w

  -- a layer whose form is d, where the room that it takes is that of its form
  taken_is : (slot : Slot) (v : Value) (ty d : TypeDef) → form_of rows slot ≡ Some ty → ty ≡ d → taken (Some d) ≡ levels_of d v → taken (form_of rows slot) ≡ levels_of ty v
  taken_is slot v ty d f e t = ap taken (f ∙ ap Some e) ∙ t ∙ ap (λ x. levels_of x v) (sym e)

  held_at : (i : ℕ) (slot : Slot) (v : Value) (l : Layer Value) (a : AtRoom rows i slot v l) → taken (form_of rows slot) ≡ levels_of a.ty v → LayerFits (Left i slot) rows a.ty l
  held_at i slot v l a t = subst (λ n. LayerFits (λ s w. Fits rows (i - n) s w) rows a.ty l) (sym t) a.holds

  of_held : (i : ℕ) (slot : Slot) (v : Value) (d : TypeDef) (l : Layer Value) → taken (form_of rows slot) ≡ levels_of d v → 1 ≤ levels_of d v → form_of rows slot ≡ Some d → layer_of v ≡ Some l
      → levels_of d v ≤ i → LayerFits (Left i slot) rows d l → Fits rows i slot v
  of_held i slot v d l t one f e le h =
      of_room rows i slot v d l (taken (form_of rows slot)) t (subst (λ n. 1 ≤ n) (sym t) one) f e (subst (λ n. n ≤ i) (sym t) le) h

  inside_fits : (i : ℕ) (slot : Slot) (d : Data) → form_of rows slot ≡ Some T.Any → (o : Option Data) (q : InSlot) → ((e : Data) → o ≡ Some e → (depth e ≤ i - 1) × IsTree e)
      → option_map (λ d. (anything, of_any d)) o ≡ Some q → Left i slot q.0 q.1
  inside_fits i slot d f None q below h = absurd (none-some q h)
  inside_fits i slot d f (Some e) q below h =
      let b = below e refl in
      subst (λ (r : InSlot). Left i slot r.0 r.1) (same_Some (anything, of_any e) q h) (subst (λ n. Fits rows (i - n) anything (of_any e)) (sym (ap taken f)) (data_fits e b.0 b.1))
    where
      data_fits : (e : Data) → depth e ≤ i - 1 → IsTree e → Fits rows (i - 1) anything (of_any e)
      data_fits D.null le tree = null_fits rows (i - 1) anything refl
      data_fits (D.boolean b) le tree = any_fits rows (i - 1) anything (D.boolean b) (told rows schema).any_there le tree tt
      data_fits (D.integer n) le tree = any_fits rows (i - 1) anything (D.integer n) (told rows schema).any_there le tree tt
      data_fits (D.text x) le tree = any_fits rows (i - 1) anything (D.text x) (told rows schema).any_there le tree tt
      data_fits (D.bytes x) le tree = any_fits rows (i - 1) anything (D.bytes x) (told rows schema).any_there le tree tt
      data_fits (D.list ds) le tree = any_fits rows (i - 1) anything (D.list ds) (told rows schema).any_there le tree tt
      data_fits (D.map ms) le tree = any_fits rows (i - 1) anything (D.map ms) (told rows schema).any_there le tree tt
      data_fits (D.link x) le tree = any_fits rows (i - 1) anything (D.link x) (told rows schema).any_there le tree tt

  -- what Any says of its data in a room
  pub record AnyAt (i : ℕ) (slot : Slot) (d : Data) : Type 0 where
    pub form : form_of rows slot ≡ Some T.Any
    pub room : depth d ≤ i
    pub tree : IsTree d
    pub given : IsNotNull d

  any_at : (i : ℕ) (slot : Slot) (d : Data) → Fits rows i slot (any d) → AnyAt i slot d
  any_at i slot d h =
      let a = room_of rows i slot (any d) (L.any d) refl h in
      let k = any_form rows (λ t w. Fits rows (i - levels_of a.ty (any d)) t w) a.ty d a.holds in
      record { form = a.form ∙ ap Some k.0; room = subst (λ x. levels_of x (any d) ≤ i) k.0 a.levels; tree = k.1; given = k.2 }

  any_typed : (i : ℕ) (slot : Slot) (d : Data) → OfType rows slot (any d) → depth d ≤ i → Fits rows i slot (any d)
  any_typed i slot d typed le =
      let f = in_layer rows slot (any d) (L.any d) refl typed in
      let k = any_form rows (λ s v. OfType rows s v) f.ty d f.holds in
      any_fits rows i slot d (f.form ∙ ap Some k.0) le k.1 k.2

  list_room : (i : ℕ) (slot : Slot) (f : Option TypeDef) (vs : Values) → IsInRoom i slot (list_holder f vs)
  list_room i slot (Some (T.List elem place)) vs = tt
  list_room i slot f vs = tt

  map_room : (i : ℕ) (slot : Slot) (f : Option TypeDef) (ps : Pairs) → IsInRoom i slot (map_holder f ps)
  map_room i slot (Some (T.Map key key_at elem place m)) ps = tt
  map_room i slot f ps = tt

  struct_room : (i : ℕ) (slot : Slot) (f : Option TypeDef) (os : Optionals) → IsInRoom i slot (struct_holder f os)
  struct_room i slot (Some (T.Struct s)) os = tt
  struct_room i slot f os = tt

  union_room : (i : ℕ) (slot : Slot) (f : Option TypeDef) (n : ℕ) (v : Value) → IsInRoom i slot (union_holder f n v)
  union_room i slot (Some (T.Union u)) n v = tt
  union_room i slot f n v = tt

  own_of : (i : ℕ) (slot : Slot) (v : Value) → Fits rows i slot v → IsInRoom i slot (holder_of rows slot v)
  own_of i slot null h = tt
  own_of i slot (boolean b) h = tt
  own_of i slot (integer n) h = tt
  own_of i slot (text x) h = tt
  own_of i slot (bytes x) h = tt
  own_of i slot (link x) h = tt
  own_of i slot (list vs) h = list_room i slot (form_of rows slot) vs
  own_of i slot (map ps) h = map_room i slot (form_of rows slot) ps
  own_of i slot (struct os) h = struct_room i slot (form_of rows slot) os
  own_of i slot (union n v) h = union_room i slot (form_of rows slot) n v
  own_of i slot (any (D.list ds)) h = subst (λ x. depth (D.list x) ≤ i) (sym (items_of-items_list ds)) (any_at i slot (D.list ds) h).room
  own_of i slot (any (D.map ms)) h = subst (λ x. depth (D.map x) ≤ i) (sym (members_of-members_list ms)) (any_at i slot (D.map ms) h).room
  own_of i slot (enum n) h = tt
  own_of i slot unit h = tt
  own_of i slot (hamt d) h = tt
  own_of i slot (any D.null) h = tt
  own_of i slot (any (D.boolean b)) h = tt
  own_of i slot (any (D.integer n)) h = tt
  own_of i slot (any (D.text x)) h = tt
  own_of i slot (any (D.bytes x)) h = tt
  own_of i slot (any (D.link x)) h = tt

  parts_of : (i : ℕ) (slot : Slot) (v : Value) (s : List ℕ) (q : InSlot) → Fits rows i slot v → part (holder_of rows slot v) s ≡ Some q → Left i slot q.0 q.1
  parts_of i slot null s q h e = absurd (none-some q e)
  parts_of i slot (boolean b) s q h e = absurd (none-some q e)
  parts_of i slot (integer n) s q h e = absurd (none-some q e)
  parts_of i slot (text x) s q h e = absurd (none-some q e)
  parts_of i slot (bytes x) s q h e = absurd (none-some q e)
  parts_of i slot (link x) s q h e = absurd (none-some q e)
  parts_of i slot (list vs) s q h e =
      let a = room_of rows i slot (list vs) (L.list (values_list vs)) refl h in
      let k0 = list_form rows (λ t w. Fits rows (i - levels_of a.ty (list vs)) t w) a.ty (values_list vs) a.holds in
      let k = list_form rows (Left i slot) a.ty (values_list vs) (held_at i slot (list vs) (L.list (values_list vs)) a (taken_is slot (list vs) a.ty (T.List k0.0 k0.1) a.form k0.2 refl)) in
      let f = a.form ∙ ap Some k.2 in
      let x = with_slot k.0 (option_and_then (λ i. slice_get (values_list vs) i) (index_of s)) q (ap (λ g. part (list_holder g vs) s) (sym f) ∙ e) in
      let j = indexed (values_list vs) (index_of s) x.0 x.1 in
      subst (λ (r : InSlot). Left i slot r.0 r.1) x.2 (each_got (Left i slot k.0) (values_list vs) j.0 x.0 k.3 j.1)
  parts_of i slot (map ps) s q h e =
      let a = room_of rows i slot (map ps) (L.map (pairs_list ps)) refl h in
      let k0 = map_form rows (λ t w. Fits rows (i - levels_of a.ty (map ps)) t w) a.ty (pairs_list ps) a.holds in
      let k = map_form rows (Left i slot) a.ty (pairs_list ps) (held_at i slot (map ps) (L.map (pairs_list ps)) a (taken_is slot (map ps) a.ty (T.Map k0.0 k0.1 k0.2 k0.3 k0.4) a.form k0.5 refl)) in
      let all : EntriesFit (Left i slot) rows k.0 k.2 k.4 (pairs_list ps) = k.6 in
      let f = a.form ∙ ap Some k.5 in
      let x = with_slot k.2 (value_at s (pairs_list ps)) q (ap (λ g. part (map_holder g ps) s) (sym f) ∙ e) in
      let t = each_found (λ p. IsUtf8 p.0 × RepresentsSome (Left i slot) rows (plainly k.0) (D.text p.0) × Left i slot k.2 p.1) s x.0 (pairs_list ps) all.1 x.1 in
      subst (λ (r : InSlot). Left i slot r.0 r.1) x.2 t.2
  parts_of i slot (struct os) s q h e =
      let a = room_of rows i slot (struct os) (L.struct (optionals_list os)) refl h in
      let k0 = struct_form rows (λ t w. Fits rows (i - levels_of a.ty (struct os)) t w) a.ty (optionals_list os) a.holds in
      let k = struct_form rows (Left i slot) a.ty (optionals_list os) (held_at i slot (struct os) (L.struct (optionals_list os)) a (taken_is slot (struct os) a.ty (T.Struct k0.0) a.form k0.1 refl)) in
      field_part (Left i slot) s (k.0).fields (optionals_list os) q k.2 (ap (λ g. part (struct_holder g os) s) (sym (a.form ∙ ap Some k.1)) ∙ e)
  parts_of i slot (union n v) s q h e =
      let a = room_of rows i slot (union n v) (L.union n v) refl h in
      let k0 = union_form rows (λ t w. Fits rows (i - levels_of a.ty (union n v)) t w) a.ty n v a.holds in
      let k = union_form rows (Left i slot) a.ty n v (held_at i slot (union n v) (L.union n v) a (taken_is slot (union n v) a.ty (T.Union k0.0) a.form k0.2 refl)) in
      let x = held_is s v (slice_get (k.0).members n) k.1 q k.3 (ap (λ g. part (union_holder g n v) s) (sym (a.form ∙ ap Some k.2)) ∙ e) in
      subst (λ (r : InSlot). Left i slot r.0 r.1) x.1 k.4
  parts_of i slot (any (D.list ds)) s q h e =
      let a = any_at i slot (D.list ds) h in
      inside_fits i slot (D.list ds) a.form (option_and_then (λ i. slice_get (items_list ds) i) (index_of s)) q
      (λ d g. let x = indexed (items_list ds) (index_of s) d g in (one_less (depth d) (items_depth ds) i (item_depth ds x.0 d x.1) a.room, each_got IsTree (items_list ds) x.0 d (trees_each ds a.tree) x.1)) e
  parts_of i slot (any (D.map ms)) s q h e =
      let a = any_at i slot (D.map ms) h in
      inside_fits i slot (D.map ms) a.form (value_at s (members_list ms)) q
      (λ d g. (one_less (depth d) (members_depth ms) i (member_depth s ms d g) a.room, (each_found EntryIsTree s d (members_list ms) (entries_each ms a.tree) g).1)) e
  parts_of i slot (enum n) s q h e = absurd (none-some q e)
  parts_of i slot unit s q h e = absurd (none-some q e)
  parts_of i slot (hamt d) s q h e = absurd (none-some q e)
  parts_of i slot (any D.null) s q h e = absurd (none-some q e)
  parts_of i slot (any (D.boolean b)) s q h e = absurd (none-some q e)
  parts_of i slot (any (D.integer n)) s q h e = absurd (none-some q e)
  parts_of i slot (any (D.text x)) s q h e = absurd (none-some q e)
  parts_of i slot (any (D.bytes x)) s q h e = absurd (none-some q e)
  parts_of i slot (any (D.link x)) s q h e = absurd (none-some q e)

  entry_set : (i : ℕ) (slot : Slot) (key : TypeNo) (val : Slot) (f : MapForm) (ps : List (List ℕ × Value)) (s : List ℕ) (u c : Value) → EntriesFit (Left i slot) rows key val f ps → value_at s ps ≡ Some u → Left i slot val c
      → EntriesFit (Left i slot) rows key val f (put_by (is_paired f) s c ps)
  entry_set i slot key val f ps s u c h e new =
      let P = λ (p : List ℕ × Value). IsUtf8 p.0 × RepresentsSome (Left i slot) rows (plainly key) (D.text p.0) × Left i slot val p.1 in
      let t = each_found P s u ps h.1 e in
      (ordered_keys f (put_by (is_paired f) s c ps) (in_order_put (is_paired f) s c ps (keys_ordered f ps h.0)), each_by P (is_paired f) s c ps h.1 (t.0, t.1, new))

  whole_of : (i : ℕ) (slot : Slot) (v : Value) (s : List ℕ) (q : InSlot) (c : Value) → OfType rows slot (value_of (set_part (holder_of rows slot v) s c)) → Fits rows i slot v → part (holder_of rows slot v) s ≡ Some q
      → IsInRoom i slot (set_part (holder_of rows slot v) s c) → Left i slot q.0 c → Fits rows i slot (value_of (set_part (holder_of rows slot v) s c))
  whole_of i slot null s q c typed h e l new = absurd (none-some q e)
  whole_of i slot (boolean b) s q c typed h e l new = absurd (none-some q e)
  whole_of i slot (integer n) s q c typed h e l new = absurd (none-some q e)
  whole_of i slot (text x) s q c typed h e l new = absurd (none-some q e)
  whole_of i slot (bytes x) s q c typed h e l new = absurd (none-some q e)
  whole_of i slot (link x) s q c typed h e l new = absurd (none-some q e)
  whole_of i slot (list vs) s q c typed h e l new =
      let a = room_of rows i slot (list vs) (L.list (values_list vs)) refl h in
      let k0 = list_form rows (λ t w. Fits rows (i - levels_of a.ty (list vs)) t w) a.ty (values_list vs) a.holds in
      let tk = taken_is slot (list vs) a.ty (T.List k0.0 k0.1) a.form k0.2 refl in
      let k = list_form rows (Left i slot) a.ty (values_list vs) (held_at i slot (list vs) (L.list (values_list vs)) a tk) in
      let f = a.form ∙ ap Some k.2 in
      let x = with_slot k.0 (option_and_then (λ i. slice_get (values_list vs) i) (index_of s)) q (ap (λ g. part (list_holder g vs) s) (sym f) ∙ e) in
      let n : Left i slot k.0 c = subst (λ r. Left i slot r c) (λ j. (sym x.2 j).0) new in
      let xs = at_index (λ i xs. slice_set xs i c) (index_of s) (values_list vs) in
      subst (λ g. Fits rows i slot (value_of (set_part (list_holder g vs) s c))) (sym f)
      (of_held i slot (list (values_of xs)) (T.List k.0 k.1) (L.list (values_list (values_of xs))) (ap taken f) (omega (arith)) f refl (subst (λ d. levels_of d (list vs) ≤ i) k.2 a.levels)
      (subst (λ ys. AllByRecursion (Left i slot k.0) ys) (sym (values_list-values_of xs)) (each_at (Left i slot k.0) (λ i xs. slice_set xs i c) (index_of s) (values_list vs) k.3 (λ j. each_with (Left i slot k.0) (values_list vs) j c k.3 n))))
  whole_of i slot (map ps) s q c typed h e l new =
      let a = room_of rows i slot (map ps) (L.map (pairs_list ps)) refl h in
      let k0 = map_form rows (λ t w. Fits rows (i - levels_of a.ty (map ps)) t w) a.ty (pairs_list ps) a.holds in
      let k = map_form rows (Left i slot) a.ty (pairs_list ps) (held_at i slot (map ps) (L.map (pairs_list ps)) a (taken_is slot (map ps) a.ty (T.Map k0.0 k0.1 k0.2 k0.3 k0.4) a.form k0.5 refl)) in
      let all : EntriesFit (Left i slot) rows k.0 k.2 k.4 (pairs_list ps) = k.6 in
      let f = a.form ∙ ap Some k.5 in
      let x = with_slot k.2 (value_at s (pairs_list ps)) q (ap (λ g. part (map_holder g ps) s) (sym f) ∙ e) in
      let n : Left i slot k.2 c = subst (λ r. Left i slot r c) (λ j. (sym x.2 j).0) new in
      subst (λ g. Fits rows i slot (value_of (set_part (map_holder g ps) s c))) (sym f)
      (of_held i slot (map (pairs_of (put_by (is_paired k.4) s c (pairs_list ps)))) (T.Map k.0 k.1 k.2 k.3 k.4) (L.map (pairs_list (pairs_of (put_by (is_paired k.4) s c (pairs_list ps))))) (ap taken f) (one_map k.4) f refl
      (subst (λ d. levels_of d (map ps) ≤ i) k.5 a.levels)
      (subst (λ ys. LayerFits (Left i slot) rows (T.Map k.0 k.1 k.2 k.3 k.4) (L.map ys)) (sym (pairs_list-pairs_of (put_by (is_paired k.4) s c (pairs_list ps))))
      (there_entries rows (Left i slot) k.0 k.2 k.4 (put_by (is_paired k.4) s c (pairs_list ps)) (entry_set i slot k.0 k.2 k.4 (pairs_list ps) s x.0 c all x.1 n))))
  whole_of i slot (struct os) s q c typed h e l new =
      let a = room_of rows i slot (struct os) (L.struct (optionals_list os)) refl h in
      let k0 = struct_form rows (λ t w. Fits rows (i - levels_of a.ty (struct os)) t w) a.ty (optionals_list os) a.holds in
      let k = struct_form rows (Left i slot) a.ty (optionals_list os) (held_at i slot (struct os) (L.struct (optionals_list os)) a (taken_is slot (struct os) a.ty (T.Struct k0.0) a.form k0.1 refl)) in
      let f = a.form ∙ ap Some k.1 in
      subst (λ g. Fits rows i slot (value_of (set_part (struct_holder g os) s c))) (sym f)
      (of_held i slot (struct (optionals_of (set_field s (Some c) (k.0).fields (optionals_list os)))) (T.Struct k.0) (L.struct (optionals_list (optionals_of (set_field s (Some c) (k.0).fields (optionals_list os))))) (ap taken f) (one_struct (k.0).form) f refl
      (subst (λ d. levels_of d (struct os) ≤ i) k.1 a.levels)
      (subst (λ ys. FieldsFit (Left i slot) (k.0).fields ys) (sym (optionals_list-optionals_of (set_field s (Some c) (k.0).fields (optionals_list os))))
      (field_set (Left i slot) s c (k.0).fields (optionals_list os) q k.2 (ap (λ g. part (struct_holder g os) s) (sym f) ∙ e) new)))
  whole_of i slot (union n v) s q c typed h e l new =
      let a = room_of rows i slot (union n v) (L.union n v) refl h in
      let k0 = union_form rows (λ t w. Fits rows (i - levels_of a.ty (union n v)) t w) a.ty n v a.holds in
      let k = union_form rows (Left i slot) a.ty n v (held_at i slot (union n v) (L.union n v) a (taken_is slot (union n v) a.ty (T.Union k0.0) a.form k0.2 refl)) in
      let f = a.form ∙ ap Some k.2 in
      let x = held_is s v (slice_get (k.0).members n) k.1 q k.3 (ap (λ g. part (union_holder g n v) s) (sym f) ∙ e) in
      let named : member_named s (k.0).members ≡ Some (n, k.1) =
      ap (λ j. member_named j (k.0).members) x.0 ∙ (told rows schema).apart.unions slot k.0 n k.1 f k.3 in
      let m : Left i slot (plainly (k.1).ty) c = subst (λ r. Left i slot r c) (λ j. (sym x.1 j).0) new in
      subst (λ g. Fits rows i slot (value_of (set_part (union_holder g n v) s c))) (sym f)
      (subst (λ o. Fits rows i slot (value_of (option_map_or (λ (p : ℕ × Member). member (k.0).members p.0 c) o (member (k.0).members n v)))) (sym named)
      (of_held i slot (union n c) (T.Union k.0) (L.union n c) (ap taken f) (omega (arith)) f refl (subst (λ d. levels_of d (union n v) ≤ i) k.2 a.levels)
      (subst (λ o. IsSomeAnd o (λ m. Left i slot (plainly m.ty) c)) (sym k.3) m)))
  whole_of i slot (any (D.list ds)) s q c typed h e l new = any_typed i slot _ typed l
  whole_of i slot (any (D.map ms)) s q c typed h e l new = any_typed i slot _ typed l
  whole_of i slot (enum n) s q c typed h e l new = absurd (none-some q e)
  whole_of i slot unit s q c typed h e l new = absurd (none-some q e)
  whole_of i slot (hamt d) s q c typed h e l new = absurd (none-some q e)
  whole_of i slot (any D.null) s q c typed h e l new = absurd (none-some q e)
  whole_of i slot (any (D.boolean b)) s q c typed h e l new = absurd (none-some q e)
  whole_of i slot (any (D.integer n)) s q c typed h e l new = absurd (none-some q e)
  whole_of i slot (any (D.text x)) s q c typed h e l new = absurd (none-some q e)
  whole_of i slot (any (D.bytes x)) s q c typed h e l new = absurd (none-some q e)
  whole_of i slot (any (D.link x)) s q c typed h e l new = absurd (none-some q e)

  pub room_is_layered : IsLayered rows (λ slot v. OfType rows slot v) ℕ (room_below rows) (λ i slot v. Fits rows i slot v) IsInRoom
  room_is_layered = record {
    own = λ i p is h. own_of i p.0 p.1 h;
    parts = λ i p q s is h e. parts_of i p.0 p.1 s q h e;
    steady = λ i p q s c is e new. refl;
    whole = λ i p q s c is h e new l k.
        let kept = of_type_is_kept rows is_key schema keys in
        whole_of i p.0 p.1 s q c (kept.set p s q.0 c is (kept.slots p q s is e) (kept.there p q s is e) new) h e l k;
  }

pub depth_along : DepthAlong
depth_along rows is_key schema keys f l typed room p s ss fits last =
    judged_by_tests rows is_key (λ slot v. OfType rows slot v) (of_type_is_kept rows is_key schema keys) ℕ (room_below rows) (λ i slot v. Fits rows i slot v) IsInRoom
    (room_is_layered rows is_key schema keys) f l typed room p s ss (room, fits) fits last
