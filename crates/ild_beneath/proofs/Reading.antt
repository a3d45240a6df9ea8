-- What the data of a value tell, by types, are the places in the value.
use Rattle.std.proofs.Common.{◌≡◌, ℕ, zero, suc, ◌-◌, ◌≤◌, Bool, true, false, cond, is_some, List, [], ◌∷◌, ◌++◌, flat_map, Option, Some, None, option_map, refl, sym, ap, ◌∙◌, subst, arith, append-nil}
use Rattle.std.specs.Prelude.{IsUtf8, option_and_then, slice_get}
use Rattle.std.specs.List.{AllByRecursion}
use Rattle.std.specs.Option.{option_map_or}
use Rattle.std.proofs.lemmas.Option.{same_Some, none-some}
use Rattle.std.proofs.Math.Nat.{sub-zero}
use Rattle.ild_data.specs.ByteOrder.{in_byte_order, no_key_twice}
use Rattle.ild_data.specs.Data as T
use Rattle.ild_data.specs.Data.{Data}
use Rattle.ild_data.specs.Limits.{deepest}
use Rattle.ild_data.specs.Trie.{trie, node_of}
use Rattle.ild_data.specs.TrieShape.{trie_levels}
use Rattle.ild_data.specs.declared.hamt_shape.HamtShape.{HamtShape}
use Rattle.ild_open_held.specs.Splits.{Part, element_parts, entry_parts, field_parts}
use Rattle.ild_schema.specs.Clear.{IsClear}
use Rattle.ild_schema.specs.Copies.{base}
use Rattle.ild_schema.specs.Slots.{form_of}
use Rattle.ild_schema.specs.Spelled.{IsSpelled}
use Rattle.ild_schema.specs.Value as V
use Rattle.ild_schema.specs.Value.{Value, Values, Pairs, Optionals, height, values_height, pairs_height, optionals_height, values_list, pairs_list, optionals_list}
use Rattle.ild_schema.specs.declared.def.Field.{Field}
use Rattle.ild_schema.specs.declared.def.MapForm.TheVariants as MF
use Rattle.ild_schema.specs.declared.def.TypeDef.{TypeDef}
use Rattle.ild_schema.specs.declared.def.TypeDef.TheVariants as D
use Rattle.ild_schema.specs.declared.number.Slot.{Slot}
use Rattle.ild_schema.specs.declared.number.TypeNo.{TypeNo}
use Rattle.ild_schema.specs.declared.row.Row.{Row}
use Rattle.ild_typed.specs.Composed.{composed}
use Rattle.ild_typed.specs.Hamt.{root_map, whole}
use Rattle.ild_typed.specs.Layer as L
use Rattle.ild_typed.specs.Layer.{Layer, as_map}
use Rattle.ild_typed.specs.Represented.{layered, represented, represented_values, represented_pairs, represented_fields}
use Rattle.ild_typed.specs.Slots.{element_of, fields_of, member_of, slot_of}
use Rattle.ild_typed.proofs.Basics.{then_from, map_from, true_from, if_from}
use Rattle.ild_typed.proofs.Entries.{both_from}
use Rattle.ild_typed.proofs.Flat.{IsFlat}
use Rattle.ild_typed.proofs.TreeNodes.{sorted_in, trie_node}
use Rattle.ild_typed_places.specs.Places.{Places, nowhere, joined, places_over, at_key, map_places, places_beneath, places_in, places_in_values, places_in_pairs, places_in_fields}
use Rattle.ild_typed.proofs.Treed.{EntryIn}
use Rattle.ild_typed.proofs.TreeParts.{pairs_in}
use Rattle.ild_typed.proofs.TreeValues.{whole_tree}
use Rattle.ild_typed.specs.Fits.{Fits}
use Rattle.ild_typed.specs.Layers.{FieldsFit}
use Rattle.ild_beneath.proofs.Fitting.{elements_fit, entries_fit, fields_fit, member_fits}
use Rattle.ild_beneath.proofs.Heights.{fits_high}
use Rattle.ild_typed_places.proofs.Ordered.{to_order}
use Rattle.ild_beneath.specs.Children.{Child, by_form, children_in, found, kind_in, node_children, nodes_found, root_children}
use Rattle.ild_beneath.specs.Parts.{is_flat, layer_parts, parts_of}
use Rattle.ild_beneath.proofs.Flats.{flat_is, flat_nowhere, is_flat_too, layer_there, not_flat}
use Rattle.ild_beneath.proofs.Keys.{Zipped, zipped_over, zipped_at}
use Rattle.ild_beneath.proofs.Nodes.{Of, both, node_tells}
use Rattle.ild_beneath.proofs.Parted.{IsPlain, parts_read}

-- ---- layers without parts

abbrev IsLeaf : Layer Data → Type 0
IsLeaf (L.list ds) = ⊥
IsLeaf (L.map es) = ⊥
IsLeaf (L.struct os) = ⊥
IsLeaf (L.union n d) = ⊥
IsLeaf l = Unit {0}

leaf_parts : (d : TypeDef) (l : Layer Data) → IsLeaf l → layer_parts d l ≡ []
leaf_parts (D.List elem at) (L.list ds) leaf = absurd leaf
leaf_parts (D.Map key key_at value at form) (L.map es) leaf = absurd leaf
leaf_parts (D.Struct s) (L.struct os) leaf = absurd leaf
leaf_parts (D.Union u) (L.union n d) leaf = absurd leaf
leaf_parts d l leaf = refl

leaf_map : (l : Layer Data) → IsLeaf l → as_map l ≡ None
leaf_map (L.map es) leaf = absurd leaf
leaf_map l leaf = refl

module _ (h : List ℕ → List ℕ) where
  plain_of : (d : TypeDef) (l : Layer Data) (t : Data) → as_map l ≡ None → composed (whole h) d l ≡ Some t → IsPlain d
  plain_of (D.Map key key_at value at (MF.Hamt p)) l t none e =
      absurd (none-some t (sym (ap (λ o. option_map (root_map p) (option_and_then (λ es. trie h p es 0) o)) none) ∙ e))
  plain_of (D.Map key key_at value at MF.Map) l t none e = tt
  plain_of (D.Map key key_at value at MF.ListPairs) l t none e = tt
  plain_of (D.Map key key_at value at (MF.StringPairs i k)) l t none e = tt
  plain_of d l t none e = tt

  -- ---- the parts of the layers of values

  list_parts : (d : TypeDef) (u : Slot) (ds : List Data) (t : Data) → composed (whole h) d (L.list ds) ≡ Some t → element_of (Some d) ≡ Some u → layer_parts d (L.list ds) ≡ element_parts u ds
  list_parts (D.List elem at) u ds t e is = ap (λ k. element_parts k ds) (same_Some elem u is)
  list_parts (D.Map key key_at value at MF.Map) u ds t e is = absurd (none-some t e)
  list_parts (D.Map key key_at value at MF.ListPairs) u ds t e is = absurd (none-some t e)
  list_parts (D.Map key key_at value at (MF.StringPairs i k)) u ds t e is = absurd (none-some t e)
  list_parts (D.Map key key_at value at (MF.Hamt p)) u ds t e is = absurd (none-some t e)
  list_parts d u ds t e is = absurd (none-some u is)

  map_parts : (d : TypeDef) (u : Slot) (es : List (List ℕ × Data)) (t : Data) → composed (whole h) d (L.map es) ≡ Some t → element_of (Some d) ≡ Some u → layer_parts d (L.map es) ≡ entry_parts u es
  map_parts (D.List elem at) u es t e is = absurd (none-some t e)
  map_parts (D.Map key key_at value at form) u es t e is = ap (λ k. entry_parts k es) (same_Some value u is)
  map_parts d u es t e is = absurd (none-some u is)

  struct_parts : (d : TypeDef) (os : List (Option Data)) (t : Data) → composed (whole h) d (L.struct os) ≡ Some t → layer_parts d (L.struct os) ≡ field_parts (fields_of (Some d)) os
  struct_parts (D.Struct s) os t e = refl
  struct_parts d os t e = refl

  union_parts : (d : TypeDef) (n : ℕ) (u : Slot) (c : Data) → member_of (Some d) n ≡ Some u → layer_parts d (L.union n c) ≡ (u, c) ∷ []
  union_parts (D.Union x) n u c is =
      let m = map_from slot_of (slice_get x.members n) u is in
      ap (λ o. option_map_or (λ k. (slot_of k, c) ∷ []) o []) m.there ∙ ap (λ k. (k, c) ∷ []) (same_Some (slot_of m.item) u m.made)
  union_parts d n u c is = absurd (none-some u is)

module _ (h : List ℕ → List ℕ) (rows : List Row) (clear : IsClear rows) (spelled : IsSpelled rows) (ty : TypeNo) where
  abbrev told : ℕ → Part → List Child
  told steps p = found rows steps p.0 p.1

  no_steps : (s : Slot) (t : Data) → found rows zero s t ≡ []
  unfolding found
  no_steps s t = refl

  flat_none : (steps : ℕ) (s : Slot) (t : Data) → IsFlat t → found rows steps s t ≡ []
  unfolding found
  flat_none zero s t flat = refl
  flat_none (suc steps) s t flat = ap (λ b. cond b [] (by_form (found rows steps) s (form_of rows s) t)) (is_flat_too t flat)

  by_plain : (below : Slot → Data → List Child) (s : Slot) (d : TypeDef) (t : Data) → IsPlain d → by_form below s (Some d) t ≡ flat_map (λ p. below p.0 p.1) (parts_of d t)
  by_plain below s (D.Map key key_at value at (MF.Hamt p)) t plain = absurd plain
  by_plain below s (D.Map key key_at value at MF.Map) t plain = refl
  by_plain below s (D.Map key key_at value at MF.ListPairs) t plain = refl
  by_plain below s (D.Map key key_at value at (MF.StringPairs i k)) t plain = refl
  by_plain below s d t plain = refl

  found_form : (steps : ℕ) (s : Slot) (t : Data) (o : Option TypeDef) → form_of rows s ≡ o → is_flat t ≡ false → found rows (suc steps) s t ≡ by_form (found rows steps) s o t
  unfolding found
  found_form steps s t o form hard =
      ap (λ b. cond b [] (by_form (found rows steps) s (form_of rows s) t)) hard ∙ ap (λ p. by_form (found rows steps) s p t) form

  at_layer : (steps : ℕ) (s : Slot) (t : Data) (d : TypeDef) (l : Layer Data) → form_of rows s ≡ Some d → composed (whole h) d l ≡ Some t → IsPlain d → is_flat t ≡ false
      → found rows (suc steps) s t ≡ flat_map (told steps) (layer_parts d l)
  at_layer steps s t d l form made plain hard =
      found_form steps s t (Some d) form hard ∙ by_plain (found rows steps) s d t plain
      ∙ parts_read (told steps) (λ p flat. flat_none steps p.0 p.1 flat) (whole h) d (clear.types (base rows s.ty.0) d form) plain l t made (not_flat t hard)

  leaf_none : (l : Layer Data) → IsLeaf l → (s : Slot) (t : Data) (steps : ℕ) → layered (whole h) (form_of rows s) (Some l) ≡ Some t → found rows steps s t ≡ []
  leaf_none l leaf s t steps e = by steps (is_flat t) refl where
    by : (n : ℕ) (b : Bool) → b ≡ is_flat t → found rows n s t ≡ []
    by n true is = flat_none n s t (flat_is t (sym is))
    by zero false is = no_steps s t
    by (suc n) false is =
        let x = layer_there (whole h) (form_of rows s) (Some l) t e in
        let same : l ≡ x.layer = same_Some l x.layer x.there in
        let made : composed (whole h) x.type l ≡ Some t = ap (composed (whole h) x.type) same ∙ x.made in
        at_layer n s t x.type l x.form made (plain_of h x.type l t (leaf_map l leaf) made) (sym is) ∙ ap (flat_map (told n)) (leaf_parts x.type l leaf)

  leaf_of : (l : Layer Data) → IsLeaf l → (s : Slot) (t : Data) (steps : ℕ) → layered (whole h) (form_of rows s) (Some l) ≡ Some t → Of rows ty (found rows steps s t) nowhere
  leaf_of l leaf s t steps e = subst (λ cs. Of rows ty cs nowhere) (sym (leaf_none l leaf s t steps e)) tt

  at_once : (s : Slot) (v : Value) (t : Data) (steps : ℕ) → represented (whole h) rows s v ≡ Some t
      → (is_flat t ≡ false → Of rows ty (found rows steps s t) (places_in h rows s v)) → Of rows ty (found rows steps s t) (places_in h rows s v)
  at_once s v t steps e f = by (is_flat t) refl where
    by : (b : Bool) → b ≡ is_flat t → Of rows ty (found rows steps s t) (places_in h rows s v)
    by true is =
        let flat : IsFlat t = flat_is t (sym is) in
        subst (λ ps. Of rows ty (found rows steps s t) ps) (sym (flat_nowhere h rows s v t e flat)) (subst (λ cs. Of rows ty cs nowhere) (sym (flat_none steps s t flat)) tt)
    by false is = f (sym is)

  -- where the parts of a layer are told, so is the whole
  whole_told : (steps : ℕ) (s : Slot) (t : Data) (d : TypeDef) (l : Layer Data) (ps : List Part) (q : Places) → form_of rows s ≡ Some d → composed (whole h) d l ≡ Some t → IsPlain d → is_flat t ≡ false
      → layer_parts d l ≡ ps → Of rows ty (flat_map (told steps) ps) q → Of rows ty (found rows (suc steps) s t) q
  whole_told steps s t d l ps q form made plain hard are of =
      subst (λ cs. Of rows ty cs q) (sym (at_layer steps s t d l form made plain hard ∙ ap (flat_map (told steps)) are)) of

  -- ---- HAMTs

  trie_apart : (p : HamtShape) (es : List (List ℕ × Data)) (node : Data) → trie h p es 0 ≡ Some node → no_key_twice es ≡ true
  unfolding trie
  trie_apart p es node e = (if_from (no_key_twice es) (node_of h p (trie_levels p - 0) 0 (in_byte_order es)) node e).0

  node_is : (s : Slot) (d : TypeDef) (value : Slot) → form_of rows s ≡ Some d → element_of (Some d) ≡ Some value → (m : Data) → children_in rows ty (kind_in s) m ≡ node_children (found rows deepest value) (kind_in s) m
  node_is s d value form is m = ap (λ o. nodes_found rows (kind_in s) o m) (ap element_of form ∙ is)

  hamt_told : (n : ℕ) (s : Slot) (t : Data) (p : HamtShape) (key : TypeNo) (key_at : ℕ) (value : Slot) (at : ℕ) (es : List (List ℕ × Data)) (ps : List (List ℕ × Places))
      → form_of rows s ≡ Some (D.Map key key_at value at (MF.Hamt p)) → whole h p (L.map es) ≡ Some t → is_flat t ≡ false
      → Zipped rows ty (found rows n value) es ps → Zipped rows ty (found rows deepest value) es ps → AllByRecursion (EntryIn deepest) es
      → Of rows ty (found rows (suc n) s t) (map_places h (Some (D.Map key key_at value at (MF.Hamt p))) (Some es) ps)
  hamt_told n s t p key key_at value at es ps form made hard near deep trees =
      let d : TypeDef = D.Map key key_at value at (MF.Hamt p) in
      let x = map_from (root_map p) (trie h p es 0) t made in
      let one = trie_apart p es x.item x.there in
      let all = to_order (λ e. Of rows ty (found rows n value e.1) (at_key ps e.0)) es one (zipped_at rows ty (found rows n value) es ps near one) in
      let more = to_order (λ e. Of rows ty (found rows deepest value e.1) (at_key ps e.0)) es one (zipped_at rows ty (found rows deepest value) es ps deep one) in
      let below = places_beneath (at_key ps) h p (trie_levels p) 0 (in_byte_order es) in
      let of : Of rows ty (node_children (found rows n value) (kind_in s) x.item) below
      = node_tells rows ty (at_key ps) (kind_in s) (found rows deepest value) (node_is s d value form refl) h p deepest (found rows n value) (trie_levels p) 0 (in_byte_order es) x.item (subst (λ l. node_of h p l 0 (in_byte_order es) ≡ Some x.item) (sub-zero (trie_levels p)) (trie_node h p es x.item x.there)) all more (sorted_in deepest es trees) in
      let children : found rows (suc n) s t ≡ node_children (found rows n value) (kind_in s) x.item
      = found_form n s t (Some d) form hard ∙ ap (root_children (found rows n value) (kind_in s)) (sym (same_Some (root_map p x.item) t x.made)) in
      subst (λ cs. Of rows ty cs (map_places h (Some d) (Some es) ps)) (sym children)
      (subst (λ o. Of rows ty (node_children (found rows n value) (kind_in s) x.item) (cond (is_some o) below (places_over (λ p. p.1) ps))) (sym x.there) of)

  -- ---- maps of any form

  map_told : (n : ℕ) (s : Slot) (t : Data) (d : TypeDef) (u : Slot) (es : List (List ℕ × Data)) (ps : List (List ℕ × Places))
      → form_of rows s ≡ Some d → composed (whole h) d (L.map es) ≡ Some t → element_of (Some d) ≡ Some u → is_flat t ≡ false
      → Zipped rows ty (found rows n u) es ps → Zipped rows ty (found rows deepest u) es ps → AllByRecursion (EntryIn deepest) es
      → Of rows ty (found rows (suc n) s t) (map_places h (Some d) (Some es) ps)
  map_told n s t (D.Map key key_at value at (MF.Hamt p)) u es ps form made is hard near deep trees =
      let same : u ≡ value = sym (same_Some value u is) in
      hamt_told n s t p key key_at value at es ps form made hard (subst (λ k. Zipped rows ty (found rows n k) es ps) same near) (subst (λ k. Zipped rows ty (found rows deepest k) es ps) same deep) trees
  map_told n s t (D.Map key key_at value at MF.Map) u es ps form made is hard near deep trees =
      whole_told n s t (D.Map key key_at value at MF.Map) (L.map es) (entry_parts u es) (places_over (λ p. p.1) ps) form made tt hard (map_parts h (D.Map key key_at value at MF.Map) u es t made is) (zipped_over rows ty (found rows n) u es ps near)
  map_told n s t (D.Map key key_at value at MF.ListPairs) u es ps form made is hard near deep trees =
      whole_told n s t (D.Map key key_at value at MF.ListPairs) (L.map es) (entry_parts u es) (places_over (λ p. p.1) ps) form made tt hard (map_parts h (D.Map key key_at value at MF.ListPairs) u es t made is) (zipped_over rows ty (found rows n) u es ps near)
  map_told n s t (D.Map key key_at value at (MF.StringPairs i k)) u es ps form made is hard near deep trees =
      whole_told n s t (D.Map key key_at value at (MF.StringPairs i k)) (L.map es) (entry_parts u es) (places_over (λ p. p.1) ps) form made tt hard (map_parts h (D.Map key key_at value at (MF.StringPairs i k)) u es t made is) (zipped_over rows ty (found rows n) u es ps near)
  map_told n s t d u es ps form made is hard near deep trees =
      whole_told n s t d (L.map es) (entry_parts u es) (places_over (λ p. p.1) ps) form made tt hard (map_parts h d u es t made is) (zipped_over rows ty (found rows n) u es ps near)

  -- ---- values

  mutual
    pub reads : (s : Slot) (v : Value) (t : Data) (steps : ℕ) → represented (whole h) rows s v ≡ Some t → height v ≤ steps → Fits rows deepest s v → Of rows ty (found rows steps s t) (places_in h rows s v)
    reads s V.null t steps e high fits =
        let x = true_from s.nullable T.null t e in
        subst (λ cs. Of rows ty cs nowhere) (sym (flat_none steps s t (subst IsFlat x.1 tt))) tt
    reads s (V.boolean b) t steps e high fits = leaf_of (L.boolean b) tt s t steps e
    reads s (V.integer b) t steps e high fits = leaf_of (L.integer b) tt s t steps e
    reads s (V.text b) t steps e high fits = leaf_of (L.text b) tt s t steps e
    reads s (V.bytes b) t steps e high fits = leaf_of (L.bytes b) tt s t steps e
    reads s (V.link b) t steps e high fits = leaf_of (L.link b) tt s t steps e
    reads s (V.any b) t steps e high fits = leaf_of (L.any b) tt s t steps e
    reads s V.unit t steps e high fits = leaf_of L.unit tt s t steps e
    reads s (V.enum b) t steps e high fits = leaf_of (L.enum b) tt s t steps e
    reads s (V.hamt b) t steps e high fits = leaf_of (L.hamt b) tt s t steps e
    reads s (V.list vs) t zero e high fits = absurd (omega (arith, high))
    reads s (V.map ps) t zero e high fits = absurd (omega (arith, high))
    reads s (V.struct os) t zero e high fits = absurd (omega (arith, high))
    reads s (V.union k v) t zero e high fits = absurd (omega (arith, high))
    reads s (V.list vs) t (suc n) e high fits = at_once s (V.list vs) t (suc n) e (λ hard.
        let x = layer_there (whole h) (form_of rows s) (option_map L.list (option_and_then (λ u. represented_values (whole h) rows u vs) (element_of (form_of rows s)))) t e in
        let y = map_from L.list (option_and_then (λ u. represented_values (whole h) rows u vs) (element_of (form_of rows s))) x.layer x.there in
        let z = then_from (λ u. represented_values (whole h) rows u vs) (element_of (form_of rows s)) y.item y.there in
        let made : composed (whole h) x.type (L.list y.item) ≡ Some t = ap (composed (whole h) x.type) (same_Some (L.list y.item) x.layer y.made) ∙ x.made in
        let of = reads_values z.item vs y.item n z.made (omega (arith, high)) (elements_fit rows s vs x.type z.item x.form (ap element_of (sym x.form) ∙ z.there) fits) in
        subst (λ o. Of rows ty (found rows (suc n) s t) (option_map_or (λ u. places_in_values h rows u vs) o nowhere)) (sym z.there)
        (whole_told n s t x.type (L.list y.item) (element_parts z.item y.item) (places_in_values h rows z.item vs) x.form made (plain_of h x.type (L.list y.item) t refl made) hard
        (list_parts h x.type z.item y.item t made (ap element_of (sym x.form) ∙ z.there)) of))
    reads s (V.map ps) t (suc n) e high fits = at_once s (V.map ps) t (suc n) e (λ hard.
        let x = layer_there (whole h) (form_of rows s) (option_map L.map (option_and_then (λ u. represented_pairs (whole h) rows u ps) (element_of (form_of rows s)))) t e in
        let y = map_from L.map (option_and_then (λ u. represented_pairs (whole h) rows u ps) (element_of (form_of rows s))) x.layer x.there in
        let z = then_from (λ u. represented_pairs (whole h) rows u ps) (element_of (form_of rows s)) y.item y.there in
        let made : composed (whole h) x.type (L.map y.item) ≡ Some t = ap (composed (whole h) x.type) (same_Some (L.map y.item) x.layer y.made) ∙ x.made in
        let low = fits_high rows deepest s (V.map ps) fits in
        let each = entries_fit rows s ps x.type z.item x.form (ap element_of (sym x.form) ∙ z.there) fits in
        let near = reads_pairs z.item ps y.item n z.made (omega (arith, high)) each in
        let deep = reads_pairs z.item ps y.item deepest z.made (omega (arith, low)) each in
        let trees = pairs_in (whole h) rows (Fits rows deepest) deepest (λ k w c f made. whole_tree h rows spelled deepest k w c f made) z.item ps y.item each z.made in
        subst (λ o. Of rows ty (found rows (suc n) s t) (option_map_or (λ u. map_places h (form_of rows s) (represented_pairs (whole h) rows u ps) (places_in_pairs h rows u ps)) o nowhere)) (sym z.there)
        (subst (λ o. Of rows ty (found rows (suc n) s t) (map_places h (form_of rows s) o (places_in_pairs h rows z.item ps))) (sym z.made)
        (subst (λ o. Of rows ty (found rows (suc n) s t) (map_places h o (Some y.item) (places_in_pairs h rows z.item ps))) (sym x.form)
        (map_told n s t x.type z.item y.item (places_in_pairs h rows z.item ps) x.form made (ap element_of (sym x.form) ∙ z.there) hard near deep trees))))
    reads s (V.struct os) t (suc n) e high fits = at_once s (V.struct os) t (suc n) e (λ hard.
        let fs = fields_of (form_of rows s) in
        let x = layer_there (whole h) (form_of rows s) (option_map L.struct (represented_fields (whole h) rows fs os)) t e in
        let y = map_from L.struct (represented_fields (whole h) rows fs os) x.layer x.there in
        let made : composed (whole h) x.type (L.struct y.item) ≡ Some t = ap (composed (whole h) x.type) (same_Some (L.struct y.item) x.layer y.made) ∙ x.made in
        let of = reads_fields fs os y.item n y.there (omega (arith, high)) (fields_fit rows s os x.type x.form fits) in
        whole_told n s t x.type (L.struct y.item) (field_parts fs y.item) (places_in_fields h rows fs os) x.form made (plain_of h x.type (L.struct y.item) t refl made) hard
        (struct_parts h x.type y.item t made ∙ ap (λ o. field_parts (fields_of o) y.item) (sym x.form)) of)
    reads s (V.union k v) t (suc n) e high fits = at_once s (V.union k v) t (suc n) e (λ hard.
        let x = layer_there (whole h) (form_of rows s) (option_map (L.union k) (option_and_then (λ u. represented (whole h) rows u v) (member_of (form_of rows s) k))) t e in
        let y = map_from (L.union k) (option_and_then (λ u. represented (whole h) rows u v) (member_of (form_of rows s) k)) x.layer x.there in
        let z = then_from (λ u. represented (whole h) rows u v) (member_of (form_of rows s) k) y.item y.there in
        let made : composed (whole h) x.type (L.union k y.item) ≡ Some t = ap (composed (whole h) x.type) (same_Some (L.union k y.item) x.layer y.made) ∙ x.made in
        let here = reads z.item v y.item n z.made (omega (arith, high)) (member_fits rows s k v x.type z.item x.form (ap (λ o. member_of o k) (sym x.form) ∙ z.there) fits) in
        let of : Of rows ty (found rows n z.item y.item ++ []) (places_in h rows z.item v) = subst (λ cs. Of rows ty cs (places_in h rows z.item v)) (sym (append-nil (found rows n z.item y.item))) here in
        subst (λ o. Of rows ty (found rows (suc n) s t) (option_map_or (λ u. places_in h rows u v) o nowhere)) (sym z.there)
        (whole_told n s t x.type (L.union k y.item) ((z.item, y.item) ∷ []) (places_in h rows z.item v) x.form made (plain_of h x.type (L.union k y.item) t refl made) hard
        (union_parts h x.type k z.item y.item (ap (λ o. member_of o k) (sym x.form) ∙ z.there)) of))

    reads_values : (u : Slot) (vs : Values) (ds : List Data) (n : ℕ) → represented_values (whole h) rows u vs ≡ Some ds → values_height vs ≤ n → AllByRecursion (Fits rows deepest u) (values_list vs)
        → Of rows ty (flat_map (told n) (element_parts u ds)) (places_in_values h rows u vs)
    reads_values u V.no_values ds n e high fits = subst (λ xs. Of rows ty (flat_map (told n) (element_parts u xs)) nowhere) (same_Some [] ds e) tt
    reads_values u (V.value v vs) ds n e high fits =
        let b = both_from (represented (whole h) rows u v) (represented_values (whole h) rows u vs) ds e in
        subst (λ xs. Of rows ty (flat_map (told n) (element_parts u xs)) (joined (places_in h rows u v) (places_in_values h rows u vs))) b.all
        (both rows ty (found rows n u b.item) (flat_map (told n) (element_parts u b.items)) (places_in h rows u v) (places_in_values h rows u vs)
        (reads u v b.item n b.first (omega (arith, high)) fits.0) (reads_values u vs b.items n b.rest (omega (arith, high)) fits.1))

    reads_pairs : (u : Slot) (ps : Pairs) (es : List (List ℕ × Data)) (n : ℕ) → represented_pairs (whole h) rows u ps ≡ Some es → pairs_height ps ≤ n → AllByRecursion (λ p. IsUtf8 p.0 × Fits rows deepest u p.1) (pairs_list ps)
        → Zipped rows ty (found rows n u) es (places_in_pairs h rows u ps)
    reads_pairs u V.no_pairs es n e high fits = subst (λ xs. Zipped rows ty (found rows n u) xs []) (same_Some [] es e) tt
    reads_pairs u (V.pair k v ps) es n e high fits =
        let b = both_from (option_map {U = List ℕ × Data} (λ d. (k, d)) (represented (whole h) rows u v)) (represented_pairs (whole h) rows u ps) es e in
        let x = map_from {B = List ℕ × Data} (λ d. (k, d)) (represented (whole h) rows u v) b.item b.first in
        let same : (k, x.item) ≡ b.item = same_Some (k, x.item) b.item x.made in
        subst (λ xs. Zipped rows ty (found rows n u) xs ((k, places_in h rows u v) ∷ places_in_pairs h rows u ps)) b.all (
          ap (λ (p : List ℕ × Data). p.0) (sym same),
          subst (λ (p : List ℕ × Data). Of rows ty (found rows n u p.1) (places_in h rows u v)) same (reads u v x.item n x.there (omega (arith, high)) fits.0.1),
          reads_pairs u ps b.items n b.rest (omega (arith, high)) fits.1,
        )

    reads_fields : (fs : List Field) (os : Optionals) (ds : List (Option Data)) (n : ℕ) → represented_fields (whole h) rows fs os ≡ Some ds → optionals_height os ≤ n → FieldsFit (Fits rows deepest) fs (optionals_list os)
        → Of rows ty (flat_map (told n) (field_parts fs ds)) (places_in_fields h rows fs os)
    reads_fields [] V.no_optionals ds n e high fits = tt
    reads_fields (f ∷ fs) V.no_optionals ds n e high fits = subst (λ xs. Of rows ty (flat_map (told n) (field_parts (f ∷ fs) xs)) nowhere) (same_Some [] ds e) tt
    reads_fields [] (V.absent os) ds n e high fits = absurd (none-some ds e)
    reads_fields [] (V.present v os) ds n e high fits = absurd (none-some ds e)
    reads_fields (f ∷ fs) (V.absent os) ds n e high fits =
        let b = map_from (λ xs. None ∷ xs) (represented_fields (whole h) rows fs os) ds e in
        subst (λ xs. Of rows ty (flat_map (told n) (field_parts (f ∷ fs) xs)) (places_in_fields h rows fs os)) (same_Some (None ∷ b.item) ds b.made) (reads_fields fs os b.item n b.there high fits.1)
    reads_fields (f ∷ fs) (V.present v os) ds n e high fits =
        let b = both_from (option_map Some (represented (whole h) rows f.slot v)) (represented_fields (whole h) rows fs os) ds e in
        let x = map_from Some (represented (whole h) rows f.slot v) b.item b.first in
        let here = reads f.slot v x.item n x.there (omega (arith, high)) fits.0 in
        let more = reads_fields fs os b.items n b.rest (omega (arith, high)) fits.1 in
        subst (λ xs. Of rows ty (flat_map (told n) (field_parts (f ∷ fs) xs)) (joined (places_in h rows f.slot v) (places_in_fields h rows fs os))) b.all
        (subst (λ o. Of rows ty (flat_map (told n) (field_parts (f ∷ fs) (o ∷ b.items))) (joined (places_in h rows f.slot v) (places_in_fields h rows fs os))) (same_Some (Some x.item) b.item x.made)
        (both rows ty (found rows n f.slot x.item) (flat_map (told n) (field_parts fs b.items)) (places_in h rows f.slot v) (places_in_fields h rows fs os) here more))
