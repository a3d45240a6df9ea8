-- The data of a value have a front: each part has one, and the root map of each HAMT is one by itself.
use Rattle.std.proofs.Common.{◌≡◌, ℕ, zero, suc, ◌-◌, ◌^◌, ◌≤◌, ◌==◌, nat_le, pos, codes, Bool, true, false, cond, List, [], ◌∷◌, length, map, Option, Some, None, option_map, IsUtf8, refl, sym, ◌∙◌, ap, subst, arith, leb-true}
use Rattle.std.specs.Prelude.{IsSomeAnd, slice_get, option_and_then}
use Rattle.std.specs.List.{AllByRecursion, range_with_len}
use Rattle.std.specs.FinMap.{put as insert}
use Rattle.std.specs.Ordering.{match_ordering}
use Rattle.std.specs.declared.cmp.Ordering.{Ordering}
use Rattle.std.specs.declared.cmp.Ordering.TheVariants.{Less, Equal, Greater}
use Rattle.std.proofs.lemmas.Option.{same_Some, none-some}
use Rattle.sha2.proofs.Facts256.{length-sha256}
use Rattle.ild_data.proofs.AllOf.{all_append, all_filter}
use Rattle.ild_data.specs.Data as T
use Rattle.ild_data.specs.Data.{Data}
use Rattle.ild_data.specs.ByteOrder.{bytewise, in_byte_order, IsInOrder}
use Rattle.ild_data.specs.Spell.{spell}
use Rattle.ild_data.specs.Trie.{TrieSlot, empty, bucket, bucket_entries, bucket_or, link_to, all_some, part, slot_of, node_of, node_data, at_depth, trie}
use Rattle.ild_data.specs.TrieShape.{trie_levels}
use Rattle.ild_data.specs.declared.hamt_shape.HamtShape.{HamtShape}
use Rattle.ild_schema.specs.declared.number.Slot.{Slot}
use Rattle.ild_schema.specs.declared.number.TypeNo.{TypeNo}
use Rattle.ild_schema.specs.declared.def.TypeDef.{TypeDef}
use Rattle.ild_schema.specs.declared.def.TypeDef.TheVariants as D
use Rattle.ild_schema.specs.declared.def.MapForm.{MapForm}
use Rattle.ild_schema.specs.declared.def.MapForm.TheVariants as MF
use Rattle.ild_schema.specs.declared.def.Field.{Field}
use Rattle.ild_schema.specs.declared.row.Row.{Row}
use Rattle.ild_schema.specs.Clear.{IsClear}
use Rattle.ild_schema.specs.Slots.{form_of, plainly}
use Rattle.ild_schema.specs.Value as V
use Rattle.ild_schema.specs.Value.{Value, Values, Pairs, Optionals, values_list, pairs_list, optionals_list}
use Rattle.ild_schema.proofs.Legibly.{legible}
use Rattle.ild_hamt_trie.proofs.Levels.{levels-first}
use Rattle.ild_hamt_trie.proofs.Parts.{in_order-part, in_order-sorted}
use Rattle.ild_typed.specs.Composed.{composed, member_form, map_form}
use Rattle.ild_typed.specs.Fits.{FitsPast, ValueFits}
use Rattle.ild_typed.specs.Hamt.{alone, whole, root_map}
use Rattle.ild_typed.specs.Layer as L
use Rattle.ild_typed.specs.Layer.{Layer, as_map}
use Rattle.ild_typed.specs.Layers.{RepresentsSome, FieldsFit, LayerFits}
use Rattle.ild_typed.specs.Levels.{levels_of}
use Rattle.ild_typed.specs.Node.{IsSlot, IsRoot, entries_in}
use Rattle.ild_typed.specs.Represented.{represented, represented_values, represented_pairs, represented_fields}
use Rattle.ild_typed.specs.Slots.{slot_of as slot_of_member, element_of, fields_of, member_of}
use Rattle.ild_typed.specs.TreeLaws.{ValuesHaveFronts}
use Rattle.ild_typed.proofs.Basics.{map_from, then_from}
use Rattle.ild_typed.proofs.Entries.{both_from}
use Rattle.ild_typed.proofs.Layers.{by_layer}
use Rattle.ild_typed.proofs.OneValue.{Way, as_null, as_layer, way_of, layer_data}
use Rattle.ild_typed.proofs.PartData.{values_data, pairs_data, member_data}
use Rattle.ild_typed.proofs.TreeNodes.{trie_node}
use Rattle.ild_typed.proofs.TreeParts.{no_type_map}
use Rattle.ild_typed.proofs.TreeShown.{list_level, map_level, struct_level, union_level}
use Rattle.ild_typed.proofs.TreeValues.{form_fits}
use Rattle.ild_typed.proofs.TrieTells.{NodeSlots, node_slots}
use Rattle.ild_typed.proofs.Utf8Texts.{id_bytes}
use Rattle.ild_typed.proofs.ViewMaps.{SameKeys, keys_like, map_fitted, map_shows, Entry}
use Rattle.ild_typed.proofs.Views.{Elements, Fields, list_shows, struct_shows, union_shows, hamt_shows}

-- ---- the slots of a node of entries whose keys are texts

module _ (p : HamtShape) (W : List ℕ × Data → Type 0) where
  -- a slot that a block may show, of entries of which W holds
  abbrev Fine : TrieSlot → Type 0
  Fine z = IsSlot p z × AllByRecursion W (bucket_entries z)

  slot_fine : (below : List (List ℕ × Data) → Option Data) (es : List (List ℕ × Data)) (z : TrieSlot) → IsInOrder es → AllByRecursion (λ e. IsUtf8 e.0) es → AllByRecursion W es
      → slot_of p.bucket below es ≡ Some z → Fine z
  slot_fine below [] z order keys all e = subst Fine (same_Some empty z e) (tt, tt)
  slot_fine below (x ∷ es) z order keys all e = by (nat_le (length (x ∷ es)) p.bucket) refl e where
    by : (b : Bool) → nat_le (length (x ∷ es)) p.bucket ≡ b → bucket_or b below (x ∷ es) ≡ Some z → Fine z
    by true is h = subst Fine (same_Some (bucket (x ∷ es)) z h) ((order, omega arith, leb-true (length (x ∷ es)) p.bucket is, keys), all)
    by false is h =
        let n = map_from link_to (below (x ∷ es)) z h in
        subst Fine (same_Some (link_to n.item) z n.made) ((length-sha256 (spell n.item), id_bytes (spell n.item)), tt)

  slots_fine : (piece : ℕ → Option TrieSlot) → ((i : ℕ) (z : TrieSlot) → piece i ≡ Some z → Fine z) → (is : List ℕ) (slots : List TrieSlot)
      → all_some (map piece is) ≡ Some slots → AllByRecursion Fine slots
  slots_fine piece each [] slots e = subst (AllByRecursion Fine) (same_Some [] slots e) tt
  slots_fine piece each (i ∷ is) slots e = by (piece i) (each i) (slots_fine piece each is) e where
    by : (o : Option TrieSlot) → ((z : TrieSlot) → o ≡ Some z → Fine z) → ((zs : List TrieSlot) → all_some (map piece is) ≡ Some zs → AllByRecursion Fine zs)
        → all_some (o ∷ map piece is) ≡ Some slots → AllByRecursion Fine slots
    by None own later h = absurd (none-some slots h)
    by (Some z) own later h =
        let x = map_from (λ zs. z ∷ zs) (all_some (map piece is)) slots h in
        subst (AllByRecursion Fine) (same_Some (z ∷ x.item) slots x.made) (own z refl, later x.item x.there)

  fine_slots : (slots : List TrieSlot) → AllByRecursion Fine slots → AllByRecursion (IsSlot p) slots × AllByRecursion W (entries_in slots)
  fine_slots [] all = (tt, tt)
  fine_slots (z ∷ slots) all =
      let rest = fine_slots slots all.1 in
      ((all.0.0, rest.0), all_append W (bucket_entries z) (entries_in slots) all.0.1 rest.1)

-- ---- the root map over the trie of entries: K of keys and W of values

module _ (K : List ℕ → Type 0) (W : Data → Type 0) where
  abbrev Both : List ℕ × Data → Type 0
  Both e = (IsUtf8 e.0 × K e.0) × W e.1

  insert_both : (k : List ℕ) (d : Data) (ms : List (List ℕ × Data)) → Both (k, d) → AllByRecursion Both ms → AllByRecursion Both (insert bytewise k d ms)
  insert_both k d [] p all = (p, tt)
  insert_both k d (m ∷ ms) p all = by (bytewise k m.0) (insert_both k d ms p all.1) where
    by : (o : Ordering) → AllByRecursion Both (insert bytewise k d ms) → AllByRecursion Both (match_ordering o ((k, d) ∷ m ∷ ms) ((m.0, d) ∷ ms) (m ∷ insert bytewise k d ms))
    by Less rest = (p, all)
    by Equal rest = ((all.0.0, p.1), all.1)
    by Greater rest = (all.0, rest)

  sorted_both : (ms : List (List ℕ × Data)) → AllByRecursion Both ms → AllByRecursion Both (in_byte_order ms)
  sorted_both [] all = tt
  sorted_both (m ∷ ms) all = insert_both m.0 m.1 (in_byte_order ms) all.0 (sorted_both ms all.1)

  keys_of : (ms : List (List ℕ × Data)) → AllByRecursion Both ms → AllByRecursion (λ e. IsUtf8 e.0) ms
  keys_of [] all = tt
  keys_of (m ∷ ms) all = (all.0.0.0, keys_of ms all.1)

  record RootOver (p : HamtShape) (t : Data) : Type 0 where
    slots : List TrieSlot
    root : IsRoot p slots t
    all : AllByRecursion Both (entries_in slots)

  root_over : (p : HamtShape) (h : List ℕ → List ℕ) (es : List (List ℕ × Data)) (t : Data) → AllByRecursion Both es → whole h p (L.map es) ≡ Some t → RootOver p t
  root_over p h es t all e =
      let x = map_from (root_map p) (trie h p es 0) t e in
      let sorted : List (List ℕ × Data) = in_byte_order es in
      let left : ℕ = trie_levels p - 1 in
      let of : NodeSlots h p left 0 sorted x.item = node_slots h p left 0 sorted x.item (subst (λ n. node_of h p n 0 sorted ≡ Some x.item) (levels-first p) (trie_node h p es x.item x.there)) in
      let fine = slots_fine p Both (λ i. slot_of p.bucket (node_of h p left 1) (part (at_depth h p 0) sorted i))
      (λ i z is.
      let own = all_filter Both (λ k. at_depth h p 0 k.0 == i) sorted (sorted_both es all) in
      slot_fine p Both (node_of h p left 1) (part (at_depth h p 0) sorted i) z (in_order-part (at_depth h p 0) sorted i (in_order-sorted es)) (keys_of (part (at_depth h p 0) sorted i) own) own is)
      (range_with_len 0 (2 ^ p.width)) of.slots of.there in
      let both = fine_slots p Both of.slots fine in
      record {
        slots = of.slots;
        root = record { indices = of.count; each = both.0; tree = sym (same_Some (root_map p x.item) t x.made) ∙ ap (root_map p) (sym of.is) };
        all = both.1;
      }

-- ---- layers without parts

module _ (h : List ℕ → List ℕ) (rows : List Row) where
  alone_too : (d : TypeDef) (l : Layer Data) (t : Data) → as_map l ≡ None → composed (whole h) d l ≡ Some t → composed alone d l ≡ Some t
  alone_too (D.Map key key_at value place MF.Map) l t none e = e
  alone_too (D.Map key key_at value place MF.ListPairs) l t none e = e
  alone_too (D.Map key key_at value place (MF.StringPairs i k)) l t none e = e
  alone_too (D.Map key key_at value place (MF.Hamt p)) l t none e =
      absurd (none-some t (sym (ap (λ o. option_map (root_map p) (option_and_then (λ es. trie h p es 0) o)) none) ∙ e))
  alone_too d l t none e = e

  no_root : (d : TypeDef) (x t : Data) → composed (whole h) d (L.hamt x) ≡ Some t → ⊥
  no_root (D.Map key key_at value place MF.Map) x t e = none-some t e
  no_root (D.Map key key_at value place MF.ListPairs) x t e = none-some t e
  no_root (D.Map key key_at value place (MF.StringPairs i k)) x t e = none-some t e
  no_root (D.Map key key_at value place (MF.Hamt p)) x t e = none-some t e
  no_root d x t e = none-some t e

  module _ (room : ℕ) (below : ℕ → Slot → Value → Type 0) (s : Slot) (t : Data) where
    leaf : (v : Value) (d : TypeDef) (l m : Layer Data) → ValueFits rows room below s v → form_of rows s ≡ Some d → m ≡ l → as_map m ≡ None → layer_data alone rows (Some d) v ≡ Some l
        → composed (whole h) d l ≡ Some t → RepresentsSome (ValueFits rows room below) rows s t
    leaf v d l m f is same none there made = (v, f, by_layer alone rows s d v l is there ∙ alone_too d l t (ap as_map (sym same) ∙ none) made)

    null_front : (v : Value) → v ≡ V.null → s.nullable ≡ true → t ≡ T.null → RepresentsSome (ValueFits rows room below) rows s t
    null_front v a b c = (V.null, b, ap (λ n. cond n (Some T.null) None) b ∙ ap Some (sym c))

  -- ---- the parts

  module _ (fits : Slot → Value → Type 0) (later : (s : Slot) (v : Value) (d : Data) → fits s v → represented (whole h) rows s v ≡ Some d → RepresentsSome fits rows s d) where
    elements_front : (s : Slot) (vs : Values) (ds : List Data) → AllByRecursion (fits s) (values_list vs) → represented_values (whole h) rows s vs ≡ Some ds → Elements rows fits s ds
    elements_front s V.no_values ds f e = subst (Elements rows fits s) (same_Some [] ds e) tt
    elements_front s (V.value v vs) ds f e =
        let b = both_from (represented (whole h) rows s v) (represented_values (whole h) rows s vs) ds e in
        subst (Elements rows fits s) b.all (later s v b.item f.0 b.first, elements_front s vs b.items f.1 b.rest)

    entries_front : (key : TypeNo) (value : Slot) (ps : Pairs) (ds : List (List ℕ × Data)) → AllByRecursion (λ p. IsUtf8 p.0 × RepresentsSome fits rows (plainly key) (T.text p.0) × fits value p.1) (pairs_list ps)
        → represented_pairs (whole h) rows value ps ≡ Some ds → AllByRecursion (Entry rows fits key value) ds × SameKeys (pairs_list ps) ds
    entries_front key value V.no_pairs ds f e = subst (λ xs. AllByRecursion (Entry rows fits key value) xs × SameKeys (pairs_list V.no_pairs) xs) (same_Some [] ds e) (tt, tt)
    entries_front key value (V.pair k v ps) ds f e =
        let b = both_from (option_map {U = List ℕ × Data} (λ c. (k, c)) (represented (whole h) rows value v)) (represented_pairs (whole h) rows value ps) ds e in
        let x = map_from {B = List ℕ × Data} (λ c. (k, c)) (represented (whole h) rows value v) b.item b.first in
        let rest = entries_front key value ps b.items f.1 b.rest in
        let P : List (List ℕ × Data) → Type 0 = λ xs. AllByRecursion (Entry rows fits key value) xs × SameKeys (pairs_list (V.pair k v ps)) xs in
        subst P (ap (λ p. p ∷ b.items) (same_Some (k, x.item) b.item x.made) ∙ b.all)
        (((f.0.0, f.0.1, later value v x.item f.0.2 x.there), rest.0), (refl, rest.1))

    fields_front : (fs : List Field) (os : Optionals) (ds : List (Option Data)) → FieldsFit fits fs (optionals_list os) → represented_fields (whole h) rows fs os ≡ Some ds → Fields rows fits fs ds
    fields_front [] V.no_optionals ds f e = subst (Fields rows fits []) (same_Some [] ds e) tt
    fields_front (g ∷ fs) V.no_optionals ds f e = absurd f
    fields_front [] (V.absent os) ds f e = absurd f
    fields_front [] (V.present v os) ds f e = absurd f
    fields_front (g ∷ fs) (V.absent os) ds f e =
        let b = map_from (λ xs. None ∷ xs) (represented_fields (whole h) rows fs os) ds e in
        subst (Fields rows fits (g ∷ fs)) (same_Some (None ∷ b.item) ds b.made) (f.0, fields_front fs os b.item f.1 b.there)
    fields_front (g ∷ fs) (V.present v os) ds f e =
        let b = both_from (option_map Some (represented (whole h) rows g.slot v)) (represented_fields (whole h) rows fs os) ds e in
        let x = map_from Some (represented (whole h) rows g.slot v) b.item b.first in
        let own : Fields rows fits (g ∷ fs) (Some x.item ∷ b.items) = (later g.slot v x.item f.0 x.there, fields_front fs os b.items f.1 b.rest) in
        subst (Fields rows fits (g ∷ fs)) (ap (λ o. o ∷ b.items) (same_Some (Some x.item) b.item x.made) ∙ b.all) own

    entries_both : (key : TypeNo) (value : Slot) (ds : List (List ℕ × Data)) → AllByRecursion (Entry rows fits key value) ds
        → AllByRecursion (Both (λ k. RepresentsSome fits rows (plainly key) (T.text k)) (RepresentsSome fits rows value)) ds
    entries_both key value [] all = tt
    entries_both key value (e ∷ es) all = (((all.0.0, all.0.1), all.0.2), entries_both key value es all.1)

    entries_shown : (key : TypeNo) (value : Slot) (ds : List (List ℕ × Data)) → AllByRecursion (Both (λ k. RepresentsSome fits rows (plainly key) (T.text k)) (RepresentsSome fits rows value)) ds
        → AllByRecursion (λ e. RepresentsSome fits rows (plainly key) (T.text e.0) × RepresentsSome fits rows value e.1) ds
    entries_shown key value [] all = tt
    entries_shown key value (e ∷ es) all = ((all.0.0.1, all.0.1), entries_shown key value es all.1)

-- ---- a value in a room

module _ (h : List ℕ → List ℕ) (rows : List Row) (clear : IsClear rows) (room : ℕ)
    (later : (o : ℕ) (s : Slot) (v : Value) (d : Data) → FitsPast rows room o s v → represented (whole h) rows s v ≡ Some d → RepresentsSome (FitsPast rows room o) rows s d)
    (s : Slot) (t : Data) where
  abbrev Answer : Type 0
  Answer = RepresentsSome (FitsPast rows (suc room) zero) rows s t

  list_front : (d : TypeDef) (vs : Values) (ds : List Data) → form_of rows s ≡ Some d → LayerFits (FitsPast rows room (levels_of d (V.list vs) - 1)) rows d (L.list (values_list vs))
      → values_data (whole h) rows (element_of (Some d)) vs ≡ Some ds → composed (whole h) d (L.list ds) ≡ Some t → Answer
  list_front (D.List elem place) vs ds is f there made =
      subst (λ u. RepresentsSome (FitsPast rows (suc room) zero) rows s u) (same_Some (T.list (T.items_of ds)) t made)
      (list_shows rows clear room s elem place ds is (elements_front h rows (FitsPast rows room zero) (later zero) elem vs ds f there))
  list_front (D.Map key key_at value place form) vs ds is f there made =
      absurd (no_type_map (FitsPast rows room (levels_of (D.Map key key_at value place form) (V.list vs) - 1)) rows (D.Map key key_at value place form) (L.list (values_list vs)) refl refl f key key_at value place form refl)
  list_front d vs ds is f there made = absurd f

  struct_front : (d : TypeDef) (os : Optionals) (ds : List (Option Data)) → form_of rows s ≡ Some d → levels_of d (V.struct os) ≤ suc room
      → LayerFits (FitsPast rows room (levels_of d (V.struct os) - 1)) rows d (L.struct (optionals_list os))
      → represented_fields (whole h) rows (fields_of (Some d)) os ≡ Some ds → composed (whole h) d (L.struct ds) ≡ Some t → Answer
  struct_front (D.Struct st) os ds is enough f there made =
      let o = levels_of (D.Struct st) (V.struct os) - 1 in
      struct_shows rows clear room s st t ds is made enough (fields_front h rows (FitsPast rows room o) (later o) st.fields os ds f there)
  struct_front (D.Map key key_at value place form) os ds is enough f there made =
      absurd (no_type_map (FitsPast rows room (levels_of (D.Map key key_at value place form) (V.struct os) - 1)) rows (D.Map key key_at value place form) (L.struct (optionals_list os)) refl refl f key key_at value place form refl)
  struct_front d os ds is enough f there made = absurd f

  union_front : (d : TypeDef) (n : ℕ) (v : Value) (c : Data) → form_of rows s ≡ Some d → LayerFits (FitsPast rows room (levels_of d (V.union n v) - 1)) rows d (L.union n v)
      → member_data (whole h) rows (member_of (Some d) n) v ≡ Some c → composed (whole h) d (L.union n c) ≡ Some t → Answer
  union_front (D.Union u) n v c is f there made =
      let m = then_from (member_form u.form c) (slice_get u.members n) t made in
      let own : FitsPast rows room zero (plainly m.item.ty) v = subst (λ o. IsSomeAnd o (λ k. FitsPast rows room zero (plainly k.ty) v)) m.there f in
      let rep : represented (whole h) rows (plainly m.item.ty) v ≡ Some c = ap (λ o. member_data (whole h) rows (option_map slot_of_member o) v) (sym m.there) ∙ there in
      union_shows rows clear room s u n m.item c t is m.there made (later zero (plainly m.item.ty) v c own rep)
  union_front (D.Map key key_at value place form) n v c is f there made =
      absurd (no_type_map (FitsPast rows room (levels_of (D.Map key key_at value place form) (V.union n v) - 1)) rows (D.Map key key_at value place form) (L.union n v) refl refl f key key_at value place form refl)
  union_front d n v c is f there made = absurd f

  flat : (key : TypeNo) (key_at : ℕ) (value : Slot) (place : ℕ) (form : MapForm) (ps : Pairs) (ds : List (List ℕ × Data)) → form_of rows s ≡ Some (D.Map key key_at value place form)
      → levels_of (D.Map key key_at value place form) (V.map ps) ≤ suc room
      → LayerFits (FitsPast rows room (levels_of (D.Map key key_at value place form) (V.map ps) - 1)) rows (D.Map key key_at value place form) (L.map (pairs_list ps))
      → represented_pairs (whole h) rows value ps ≡ Some ds → map_form alone form (L.map ds) ≡ Some t → Answer
  flat key key_at value place form ps ds is enough f there made =
      let o = levels_of (D.Map key key_at value place form) (V.map ps) - 1 in
      let fits = map_fitted rows (FitsPast rows room o) key value form (pairs_list ps) f in
      let x = entries_front h rows (FitsPast rows room o) (later o) key value ps ds fits.1 there in
      map_shows rows clear room s key key_at value place form is ds t made enough (keys_like form (pairs_list ps) ds x.1 fits.0) x.0

  map_front : (d : TypeDef) (ps : Pairs) (ds : List (List ℕ × Data)) → form_of rows s ≡ Some d → levels_of d (V.map ps) ≤ suc room
      → LayerFits (FitsPast rows room (levels_of d (V.map ps) - 1)) rows d (L.map (pairs_list ps))
      → pairs_data (whole h) rows (element_of (Some d)) ps ≡ Some ds → composed (whole h) d (L.map ds) ≡ Some t → Answer
  map_front (D.Map key key_at value place form) ps ds is enough f there made = by form is enough f there made where
    by : (form : MapForm) → form_of rows s ≡ Some (D.Map key key_at value place form) → levels_of (D.Map key key_at value place form) (V.map ps) ≤ suc room
        → LayerFits (FitsPast rows room (levels_of (D.Map key key_at value place form) (V.map ps) - 1)) rows (D.Map key key_at value place form) (L.map (pairs_list ps))
        → represented_pairs (whole h) rows value ps ≡ Some ds → map_form (whole h) form (L.map ds) ≡ Some t → Answer
    by (MF.Hamt p) is enough f there made =
        let fits = map_fitted rows (FitsPast rows room 4) key value (MF.Hamt p) (pairs_list ps) f in
        let x = entries_front h rows (FitsPast rows room 4) (later 4) key value ps ds fits.1 there in
        let root = root_over (λ k. RepresentsSome (FitsPast rows room 4) rows (plainly key) (T.text k)) (RepresentsSome (FitsPast rows room 4) rows value) p h ds t
        (entries_both h rows (FitsPast rows room 4) (later 4) key value ds x.0) made in
        let shape : T.Members = T.members_of ((codes "hamt", node_data root.slots) ∷ (codes "hashAlg", T.integer (pos 18)) ∷ (codes "bucketSize", T.integer (pos p.bucket)) ∷ []) in
        let own : IsRoot p root.slots (T.map shape) = subst (IsRoot p root.slots) root.root.tree root.root in
        subst (λ u. RepresentsSome (FitsPast rows (suc room) zero) rows s u) (sym root.root.tree)
        (hamt_shows rows clear room s p key key_at value place shape is enough
        (root.slots, own, entries_shown h rows (FitsPast rows room 4) (later 4) key value (entries_in root.slots) root.all))
    by MF.Map is enough f there made = flat key key_at value place MF.Map ps ds is enough f there made
    by MF.ListPairs is enough f there made = flat key key_at value place MF.ListPairs ps ds is enough f there made
    by (MF.StringPairs inner entry) is enough f there made = flat key key_at value place (MF.StringPairs inner entry) ps ds is enough f there made
  map_front d ps ds is enough f there made = absurd f

  step : (v : Value) → ValueFits rows (suc room) (FitsPast rows room) s v → represented (whole h) rows s v ≡ Some t → Answer
  unfolding FitsPast
  step v f e = by v f (way_of (whole h) rows s v t e) where
    by : (v : Value) → ValueFits rows (suc room) (FitsPast rows room) s v → Way (whole h) rows s v t → Answer
    by v f (as_null a b c) = null_front h rows (suc room) (FitsPast rows room) s t v a b c
    by V.null f (as_layer d l is there made) = absurd (none-some l there)
    by (V.list vs) f (as_layer d l is there made) =
        let own = form_fits rows (suc room) (FitsPast rows room) (whole h) s d (V.list vs) l is there f in
        let x = map_from L.list (values_data (whole h) rows (element_of (Some d)) vs) l there in
        list_front d vs x.item is own.1 x.there (ap (composed (whole h) d) (same_Some (L.list x.item) l x.made) ∙ made)
    by (V.map ps) f (as_layer d l is there made) =
        let own = form_fits rows (suc room) (FitsPast rows room) (whole h) s d (V.map ps) l is there f in
        let x = map_from L.map (pairs_data (whole h) rows (element_of (Some d)) ps) l there in
        map_front d ps x.item is own.0 own.1 x.there (ap (composed (whole h) d) (same_Some (L.map x.item) l x.made) ∙ made)
    by (V.struct os) f (as_layer d l is there made) =
        let own = form_fits rows (suc room) (FitsPast rows room) (whole h) s d (V.struct os) l is there f in
        let x = map_from L.struct (represented_fields (whole h) rows (fields_of (Some d)) os) l there in
        struct_front d os x.item is own.0 own.1 x.there (ap (composed (whole h) d) (same_Some (L.struct x.item) l x.made) ∙ made)
    by (V.union n v) f (as_layer d l is there made) =
        let own = form_fits rows (suc room) (FitsPast rows room) (whole h) s d (V.union n v) l is there f in
        let x = map_from (L.union n) (member_data (whole h) rows (member_of (Some d) n) v) l there in
        union_front d n v x.item is own.1 x.there (ap (composed (whole h) d) (same_Some (L.union n x.item) l x.made) ∙ made)
    by (V.hamt x) f (as_layer d l is there made) = absurd (no_root h rows d x t (ap (composed (whole h) d) (same_Some (L.hamt x) l there) ∙ made))
    by (V.boolean b) f (as_layer d l is there made) = leaf h rows (suc room) (FitsPast rows room) s t (V.boolean b) d l (L.boolean b) f is (same_Some (L.boolean b) l there) refl there made
    by (V.integer b) f (as_layer d l is there made) = leaf h rows (suc room) (FitsPast rows room) s t (V.integer b) d l (L.integer b) f is (same_Some (L.integer b) l there) refl there made
    by (V.text b) f (as_layer d l is there made) = leaf h rows (suc room) (FitsPast rows room) s t (V.text b) d l (L.text b) f is (same_Some (L.text b) l there) refl there made
    by (V.bytes b) f (as_layer d l is there made) = leaf h rows (suc room) (FitsPast rows room) s t (V.bytes b) d l (L.bytes b) f is (same_Some (L.bytes b) l there) refl there made
    by (V.link b) f (as_layer d l is there made) = leaf h rows (suc room) (FitsPast rows room) s t (V.link b) d l (L.link b) f is (same_Some (L.link b) l there) refl there made
    by (V.any b) f (as_layer d l is there made) = leaf h rows (suc room) (FitsPast rows room) s t (V.any b) d l (L.any b) f is (same_Some (L.any b) l there) refl there made
    by (V.enum b) f (as_layer d l is there made) = leaf h rows (suc room) (FitsPast rows room) s t (V.enum b) d l (L.enum b) f is (same_Some (L.enum b) l there) refl there made
    by V.unit f (as_layer d l is there made) = leaf h rows (suc room) (FitsPast rows room) s t V.unit d l L.unit f is (same_Some L.unit l there) refl there made

-- in no room at all nothing with parts fits
module _ (h : List ℕ → List ℕ) (rows : List Row) (s : Slot) (t : Data) where
  never : (n : ℕ) → 1 ≤ n → n ≤ 0 → ⊥
  never n a b = omega (arith, a, b)

  at_zero : (v : Value) → ValueFits rows zero (λ over u w. ⊥) s v → represented (whole h) rows s v ≡ Some t → RepresentsSome (FitsPast rows zero zero) rows s t
  unfolding FitsPast
  at_zero v f e = by v f (way_of (whole h) rows s v t e) where
    by : (v : Value) → ValueFits rows zero (λ over u w. ⊥) s v → Way (whole h) rows s v t → RepresentsSome (FitsPast rows zero zero) rows s t
    by v f (as_null a b c) = null_front h rows zero (λ over u w. ⊥) s t v a b c
    by V.null f (as_layer d l is there made) = absurd (none-some l there)
    by (V.list vs) f (as_layer d l is there made) =
        let own = form_fits rows zero (λ over u w. ⊥) (whole h) s d (V.list vs) l is there f in
        absurd (never (levels_of d (V.list vs)) (list_level (λ u w. ⊥) rows d (V.list vs) (values_list vs) own.1) own.0)
    by (V.map ps) f (as_layer d l is there made) =
        let own = form_fits rows zero (λ over u w. ⊥) (whole h) s d (V.map ps) l is there f in
        absurd (never (levels_of d (V.map ps)) (map_level (λ u w. ⊥) rows d (V.map ps) (pairs_list ps) own.1) own.0)
    by (V.struct os) f (as_layer d l is there made) =
        let own = form_fits rows zero (λ over u w. ⊥) (whole h) s d (V.struct os) l is there f in
        absurd (never (levels_of d (V.struct os)) (struct_level (λ u w. ⊥) rows d (V.struct os) (optionals_list os) own.1) own.0)
    by (V.union n v) f (as_layer d l is there made) =
        let own = form_fits rows zero (λ over u w. ⊥) (whole h) s d (V.union n v) l is there f in
        absurd (never (levels_of d (V.union n v)) (union_level (λ u w. ⊥) rows d (V.union n v) n v own.1) own.0)
    by (V.hamt x) f (as_layer d l is there made) = absurd (no_root h rows d x t (ap (composed (whole h) d) (same_Some (L.hamt x) l there) ∙ made))
    by (V.boolean b) f (as_layer d l is there made) = leaf h rows zero (λ over u w. ⊥) s t (V.boolean b) d l (L.boolean b) f is (same_Some (L.boolean b) l there) refl there made
    by (V.integer b) f (as_layer d l is there made) = leaf h rows zero (λ over u w. ⊥) s t (V.integer b) d l (L.integer b) f is (same_Some (L.integer b) l there) refl there made
    by (V.text b) f (as_layer d l is there made) = leaf h rows zero (λ over u w. ⊥) s t (V.text b) d l (L.text b) f is (same_Some (L.text b) l there) refl there made
    by (V.bytes b) f (as_layer d l is there made) = leaf h rows zero (λ over u w. ⊥) s t (V.bytes b) d l (L.bytes b) f is (same_Some (L.bytes b) l there) refl there made
    by (V.link b) f (as_layer d l is there made) = leaf h rows zero (λ over u w. ⊥) s t (V.link b) d l (L.link b) f is (same_Some (L.link b) l there) refl there made
    by (V.any b) f (as_layer d l is there made) = leaf h rows zero (λ over u w. ⊥) s t (V.any b) d l (L.any b) f is (same_Some (L.any b) l there) refl there made
    by (V.enum b) f (as_layer d l is there made) = leaf h rows zero (λ over u w. ⊥) s t (V.enum b) d l (L.enum b) f is (same_Some (L.enum b) l there) refl there made
    by V.unit f (as_layer d l is there made) = leaf h rows zero (λ over u w. ⊥) s t V.unit d l L.unit f is (same_Some L.unit l there) refl there made

past_front : (h : List ℕ → List ℕ) (rows : List Row) → IsClear rows → (room over : ℕ) (s : Slot) (v : Value) (d : Data) → FitsPast rows room over s v → represented (whole h) rows s v ≡ Some d
    → RepresentsSome (FitsPast rows room over) rows s d
unfolding FitsPast
past_front h rows clear zero zero s v d f e = at_zero h rows s d v f e
past_front h rows clear zero (suc over) s v d f e = absurd f
past_front h rows clear (suc room) zero s v d f e = step h rows clear room (past_front h rows clear room) s d v f e
past_front h rows clear (suc room) (suc over) s v d f e = past_front h rows clear room over s v d f e

pub values_fronts : ValuesHaveFronts
values_fronts h rows schema room s v d f e =
    let x = past_front h rows (legible rows schema.accepted).clear room zero s v d f e in
    (x.0, record { fits = x.1; tree = x.2 })
