-- A test of layers that no layer of a value meets: nor does one where a part comes or goes, if the holder doesn't, and the part.
use Rattle.std.proofs.Common.{◌≡◌, ℕ, List, [], ◌∷◌, length, Bool, true, false, cond, Option, Some, None, refl, sym, ◌∙◌, ap, subst}
use Rattle.std.specs.Option.{option_map_or}
use Rattle.std.specs.Prelude.{insert, option_map, remove}
use Rattle.std.proofs.lemmas.Option.{none-some, same_Some}
use Rattle.std.proofs.lemmas.Bool.{or_parts, or_from}
use Rattle.ild_data.specs.Data as T
use Rattle.ild_data.specs.Key.{same_text}
use Rattle.ild_path_delimiter.specs.TextEdits.{CanEdit, in_last}
use Rattle.ild_path_delimiter.specs.declared.delimiter.TextEdit.{TextEdit}
use Rattle.ild_path_delimiter.specs.declared.delimiter.TextEdit.TheVariants as E
use Rattle.ild_path_item.proofs.Verbs.{as_set, is_list}
use Rattle.ild_path_edits.proofs.LayerTesting.{set_is_judged, in_slot, slot_in}
use Rattle.ild_path_edits.proofs.Typing.{Each, each_at, each_inserted, each_removed, each_without}
use Rattle.ild_path_edits.specs.Along.{IsFree, LayerPasses}
use Rattle.ild_path_edits.specs.Table.{MayStand, delete_part, insert_part, new_index, slot_to_insert, slot_to_set}
use Rattle.ild_schema.specs.Slots.{form_of}
use Rattle.ild_schema.specs.Value as V
use Rattle.ild_schema.specs.Value.{Optionals, Pairs, Value, Values, optionals_list, optionals_of, pairs_list, pairs_of, values_list, values_of}
use Rattle.ild_schema.specs.declared.def.Field.{Field}
use Rattle.ild_schema.specs.declared.def.TypeDef.{TypeDef}
use Rattle.ild_schema.specs.declared.def.TypeDef.TheVariants as D
use Rattle.ild_schema.specs.declared.number.Slot.{Slot}
use Rattle.ild_schema.specs.declared.row.Row.{Row}
use Rattle.ild_typed.specs.At.{InSlot, seen}
use Rattle.ild_typed.specs.EachLayer.{some_field, some_layer, some_pair, some_value}
use Rattle.ild_typed.specs.Hamt.{alone}
use Rattle.ild_typed.specs.Holder.{holder_of, list_holder, map_holder, struct_holder, union_holder, value_of}
use Rattle.ild_typed.specs.OfType.{OfType, TestsKeys}
use Rattle.ild_typed.specs.Represented.{represented}
use Rattle.ild_typed.specs.Schema.{IsSchema}
use Rattle.ild_typed.specs.Segment.{index_of, set_field, set_part}
use Rattle.ild_typed.specs.Slots.{element_of, fields_of}

optionals_back : (os : Optionals) → optionals_of (optionals_list os) ≡ os
optionals_back V.no_optionals = refl
optionals_back (V.absent os) = ap (λ ps. V.absent ps) (optionals_back os)
optionals_back (V.present v os) = ap (λ ps. V.present v ps) (optionals_back os)

module _ (test : Option TypeDef → Value → Bool) (rows : List Row) where
  abbrev Free : Slot → Value → Type 0
  Free slot v = IsFree test rows slot v

  -- ---- lists of parts

  values_each : (u : Slot) (vs : Values) → some_value test rows u vs ≡ false → Each (Free u) (values_list vs)
  values_each u V.no_values h = tt
  values_each u (V.value v vs) h = let x = or_parts (some_layer test rows u v) (some_value test rows u vs) h in (x.0, values_each u vs x.1)

  each_values : (u : Slot) (xs : List Value) → Each (Free u) xs → some_value test rows u (values_of xs) ≡ false
  each_values u [] h = refl
  each_values u (x ∷ xs) h = or_from (some_layer test rows u x) (some_value test rows u (values_of xs)) h.0 (each_values u xs h.1)

  abbrev EntryFree : Slot → List ℕ × Value → Type 0
  EntryFree u p = Free u p.1

  pairs_each : (u : Slot) (ps : Pairs) → some_pair test rows u ps ≡ false → Each (EntryFree u) (pairs_list ps)
  pairs_each u V.no_pairs h = tt
  pairs_each u (V.pair k v ps) h = let x = or_parts (some_layer test rows u v) (some_pair test rows u ps) h in (x.0, pairs_each u ps x.1)

  each_pairs : (u : Slot) (xs : List (List ℕ × Value)) → Each (EntryFree u) xs → some_pair test rows u (pairs_of xs) ≡ false
  each_pairs u [] h = refl
  each_pairs u (x ∷ xs) h = or_from (some_layer test rows u x.1) (some_pair test rows u (pairs_of xs)) h.0 (each_pairs u xs h.1)

  either_fields : (fs : List Field) (x y : List (Option Value)) (b : Bool) → some_field test rows fs (optionals_of x) ≡ false → some_field test rows fs (optionals_of y) ≡ false → some_field test rows fs (optionals_of (cond b x y)) ≡ false
  either_fields fs x y true p q = p
  either_fields fs x y false p q = q

  field_gone : (s : List ℕ) (fs : List Field) (os : Optionals) → some_field test rows fs os ≡ false → some_field test rows fs (optionals_of (set_field s None fs (optionals_list os))) ≡ false
  field_gone s [] os h = ap (some_field test rows []) (optionals_back os) ∙ h
  field_gone s (f ∷ fs) V.no_optionals h = refl
  field_gone s (f ∷ fs) (V.absent os) h =
      either_fields (f ∷ fs) (None ∷ optionals_list os) (None ∷ set_field s None fs (optionals_list os)) (same_text s f.name) (ap (some_field test rows fs) (optionals_back os) ∙ h) (field_gone s fs os h)
  field_gone s (f ∷ fs) (V.present v os) h =
      let x = or_parts (some_layer test rows f.slot v) (some_field test rows fs os) h in
      either_fields (f ∷ fs) (None ∷ optionals_list os) (Some v ∷ set_field s None fs (optionals_list os)) (same_text s f.name) (ap (some_field test rows fs) (optionals_back os) ∙ x.1)
      (or_from (some_layer test rows f.slot v) (some_field test rows fs (optionals_of (set_field s None fs (optionals_list os)))) x.0 (field_gone s fs os x.1))

  -- ---- a part goes

  list_deleted : (slot : Slot) (F : Option TypeDef) (vs : Values) (s : List ℕ) → form_of rows slot ≡ F → Free slot (V.list vs) → LayerPasses test rows slot (delete_part (list_holder F vs) s) → Free slot (value_of (delete_part (list_holder F vs) s))
  list_deleted slot (Some (D.List elem at)) vs s e h passes =
      let xs = values_list vs in
      let old = or_parts (test (form_of rows slot) (V.list vs)) (option_map_or (λ u. some_value test rows u vs) (element_of (form_of rows slot)) false) h in
      let each = values_each elem vs (in_slot (element_of (form_of rows slot)) elem (λ u. some_value test rows u vs) (ap element_of e) old.1) in
      or_from (test (form_of rows slot) (value_of (delete_part (list_holder (Some (D.List elem at)) vs) s))) _ passes
      (slot_in (element_of (form_of rows slot)) elem _ (ap element_of e) (each_values elem _ (each_at (Free elem) (λ i xs. remove xs i) (index_of s) xs each (λ i. each_removed (Free elem) xs i each))))
  list_deleted slot F vs s e h passes = h

  map_deleted : (slot : Slot) (F : Option TypeDef) (ps : Pairs) (s : List ℕ) → form_of rows slot ≡ F → Free slot (V.map ps) → LayerPasses test rows slot (delete_part (map_holder F ps) s) → Free slot (value_of (delete_part (map_holder F ps) s))
  map_deleted slot (Some (D.Map k k_at elem at form)) ps s e h passes =
      let old = or_parts (test (form_of rows slot) (V.map ps)) (option_map_or (λ u. some_pair test rows u ps) (element_of (form_of rows slot)) false) h in
      let each = pairs_each elem ps (in_slot (element_of (form_of rows slot)) elem (λ u. some_pair test rows u ps) (ap element_of e) old.1) in
      or_from (test (form_of rows slot) (value_of (delete_part (map_holder (Some (D.Map k k_at elem at form)) ps) s))) _ passes
      (slot_in (element_of (form_of rows slot)) elem _ (ap element_of e) (each_pairs elem _ (each_without (EntryFree elem) s (pairs_list ps) each)))
  map_deleted slot F ps s e h passes = h

  struct_deleted : (slot : Slot) (F : Option TypeDef) (os : Optionals) (s : List ℕ) → form_of rows slot ≡ F → Free slot (V.struct os) → LayerPasses test rows slot (delete_part (struct_holder F os) s) → Free slot (value_of (delete_part (struct_holder F os) s))
  struct_deleted slot (Some (D.Struct r)) os s e h passes =
      let old = or_parts (test (form_of rows slot) (V.struct os)) (some_field test rows (fields_of (form_of rows slot)) os) h in
      let new = optionals_of (set_field s None r.fields (optionals_list os)) in
      or_from (test (form_of rows slot) (V.struct new)) (some_field test rows (fields_of (form_of rows slot)) new) passes
      (subst (λ F. some_field test rows (fields_of F) new ≡ false) (sym e) (field_gone s r.fields os (subst (λ F. some_field test rows (fields_of F) os ≡ false) e old.1)))
  struct_deleted slot F os s e h passes = h

  union_deleted : (slot : Slot) (F : Option TypeDef) (n : ℕ) (v : Value) (s : List ℕ) → Free slot (V.union n v) → Free slot (value_of (delete_part (union_holder F n v) s))
  union_deleted slot (Some (D.Union u)) n v s h = h
  union_deleted slot F n v s h = h

  pub deleted : (slot : Slot) (v : Value) (s : List ℕ) → Free slot v → LayerPasses test rows slot (delete_part (holder_of rows slot v) s) → Free slot (value_of (delete_part (holder_of rows slot v) s))
  deleted slot (V.list vs) s h passes = list_deleted slot (form_of rows slot) vs s refl h passes
  deleted slot (V.map ps) s h passes = map_deleted slot (form_of rows slot) ps s refl h passes
  deleted slot (V.struct os) s h passes = struct_deleted slot (form_of rows slot) os s refl h passes
  deleted slot (V.union n v) s h passes = union_deleted slot (form_of rows slot) n v s h
  deleted slot (V.any T.null) s h passes = refl
  deleted slot (V.any (T.boolean b)) s h passes = refl
  deleted slot (V.any (T.integer n)) s h passes = refl
  deleted slot (V.any (T.text t)) s h passes = refl
  deleted slot (V.any (T.bytes t)) s h passes = refl
  deleted slot (V.any (T.list ds)) s h passes = refl
  deleted slot (V.any (T.map ms)) s h passes = refl
  deleted slot (V.any (T.link t)) s h passes = refl
  deleted slot v s h passes = h

  -- ---- a part comes

  index_slot : (elem u : Slot) (o : Option ℕ) → option_map (λ i. elem) o ≡ Some u → elem ≡ u
  index_slot elem u None e = absurd (none-some u e)
  index_slot elem u (Some i) e = same_Some elem u e

  list_inserted : (slot u : Slot) (F : Option TypeDef) (vs : Values) (s : List ℕ) (w : Value) → form_of rows slot ≡ F → Free slot (V.list vs) → slot_to_insert (list_holder F vs) s ≡ Some u → Free u w → LayerPasses test rows slot (insert_part (list_holder F vs) s w)
      → Free slot (value_of (insert_part (list_holder F vs) s w))
  list_inserted slot u (Some (D.List elem at)) vs s w e h place fine passes =
      let xs = values_list vs in
      let old = or_parts (test (form_of rows slot) (V.list vs)) (option_map_or (λ u. some_value test rows u vs) (element_of (form_of rows slot)) false) h in
      let each = values_each elem vs (in_slot (element_of (form_of rows slot)) elem (λ u. some_value test rows u vs) (ap element_of e) old.1) in
      let index = new_index (length xs) s in
      let new : Free elem w = subst (λ u. Free u w) (sym (index_slot elem u index place)) fine in
      or_from (test (form_of rows slot) (value_of (insert_part (list_holder (Some (D.List elem at)) vs) s w))) _ passes
      (slot_in (element_of (form_of rows slot)) elem _ (ap element_of e) (each_values elem _ (each_at (Free elem) (λ i xs. insert xs i w) index xs each (λ i. each_inserted (Free elem) xs i w each new))))
  list_inserted slot u F vs s w e h place fine passes = h

  no_map : {A : Type 0} (F : Option TypeDef) (ps : Pairs) → is_list (map_holder F ps) ≡ true → A
  no_map (Some (D.Map k k_at elem at form)) ps e = absurd cc
  no_map F ps e = absurd cc

  no_struct : {A : Type 0} (F : Option TypeDef) (os : Optionals) → is_list (struct_holder F os) ≡ true → A
  no_struct (Some (D.Struct r)) os e = absurd cc
  no_struct F os e = absurd cc

  no_union : {A : Type 0} (F : Option TypeDef) (n : ℕ) (v : Value) → is_list (union_holder F n v) ≡ true → A
  no_union (Some (D.Union r)) n v e = absurd cc
  no_union F n v e = absurd cc

  lists_inserted : (slot u : Slot) (v : Value) (s : List ℕ) (w : Value) → is_list (holder_of rows slot v) ≡ true → Free slot v → slot_to_insert (holder_of rows slot v) s ≡ Some u → Free u w → LayerPasses test rows slot (insert_part (holder_of rows slot v) s w)
      → Free slot (value_of (insert_part (holder_of rows slot v) s w))
  lists_inserted slot u (V.list vs) s w e h place fine passes = list_inserted slot u (form_of rows slot) vs s w refl h place fine passes
  lists_inserted slot u (V.map ps) s w e h place fine passes = no_map (form_of rows slot) ps e
  lists_inserted slot u (V.struct os) s w e h place fine passes = no_struct (form_of rows slot) os e
  lists_inserted slot u (V.union n v) s w e h place fine passes = no_union (form_of rows slot) n v e
  lists_inserted slot u (V.any T.null) s w e h place fine passes = absurd cc
  lists_inserted slot u (V.any (T.boolean b)) s w e h place fine passes = absurd cc
  lists_inserted slot u (V.any (T.integer n)) s w e h place fine passes = absurd cc
  lists_inserted slot u (V.any (T.text t)) s w e h place fine passes = absurd cc
  lists_inserted slot u (V.any (T.bytes t)) s w e h place fine passes = absurd cc
  lists_inserted slot u (V.any (T.list ds)) s w e h place fine passes = refl
  lists_inserted slot u (V.any (T.map ms)) s w e h place fine passes = refl
  lists_inserted slot u (V.any (T.link t)) s w e h place fine passes = absurd cc
  lists_inserted slot u v s w e h place fine passes = absurd cc

  module _ (is_key : ℕ → List ℕ → Bool) (schema : IsSchema rows) (keys : TestsKeys rows is_key) where
    pub set_free : (p : InSlot) (s : List ℕ) (slot : Slot) (w : Value) → OfType rows p.0 p.1 → Free p.0 p.1 → slot_to_set (seen rows p) s ≡ Some slot → MayStand is_key (seen rows p) s → OfType rows slot w → Free slot w
        → LayerPasses test rows p.0 (set_part (seen rows p) s w) → Free p.0 (value_of (set_part (seen rows p) s w))
    set_free p s slot w is free at stands new fine passes = (set_is_judged rows is_key test schema keys p s slot w is free at stands new).1 (passes, fine)

    pub insert_free : (p : InSlot) (s : List ℕ) (u : Slot) (w : Value) → OfType rows p.0 p.1 → Free p.0 p.1 → slot_to_insert (seen rows p) s ≡ Some u → MayStand is_key (seen rows p) s → OfType rows u w → Free u w
        → LayerPasses test rows p.0 (insert_part (seen rows p) s w) → Free p.0 (value_of (insert_part (seen rows p) s w))
    insert_free p s u w is free at stands new fine passes = by (is_list (seen rows p)) refl where
      by : (b : Bool) → is_list (seen rows p) ≡ b → Free p.0 (value_of (insert_part (seen rows p) s w))
      by true e = lists_inserted p.0 u p.1 s w e free at fine passes
      by false e =
          let x = as_set (seen rows p) s u w e at in
          subst (λ h. Free p.0 (value_of h)) (sym x.0) (set_free p s u w is free x.1 stands new fine (subst (LayerPasses test rows p.0) x.0 passes))

    -- each of the three
    pub edit_free : (edit : TextEdit) (p : InSlot) (s : List ℕ) (w : Value) → OfType rows p.0 p.1 → Free p.0 p.1 → CanEdit rows is_key edit (seen rows p) s w
        → ((slot : Slot) (x : List ℕ) → represented alone rows slot w ≡ Some (T.text x) → Free slot w) → LayerPasses test rows p.0 (in_last edit w (seen rows p) s) → Free p.0 (value_of (in_last edit w (seen rows p) s))
    edit_free (E.Set t) p s w is free can fine passes = set_free p s can.0 w is free can.1 can.2 can.3 (fine can.0 t.now can.4) passes
    edit_free (E.Insert t) p s w is free can fine passes = insert_free p s can.0 w is free can.1 can.2 can.3 (fine can.0 t.now can.4) passes
    edit_free E.Delete p s w is free can fine passes = deleted p.0 p.1 s free passes
