-- Each edit of the last holder is one change of its data.
use Rattle.ild_data.proofs.Options.{chain_some}
use Rattle.ild_data.specs.Data as D
use Rattle.ild_schema.specs.declared.def.TypeDef.TheVariants as T
use Rattle.std.proofs.Common.{cond, ◌≡◌, ℕ, List, [], ◌∷◌, length, insert, slice_get, Bool, true, false, Option, Some, None, refl, ap, sym, subst, ◌∙◌}
use Rattle.std.specs.Prelude.{slice_set, option_map, option_and_then, remove, is_some}
use Rattle.std.specs.Option.{option_map_or}
use Rattle.std.proofs.lemmas.Option.{same_Some, none-some}
use Rattle.ild_data.specs.Data.{Data, items_list, members_list}
use Rattle.ild_data.specs.Key.{put, value_at, without, Rises}
use Rattle.ild_schema.specs.declared.def.TypeDef.{TypeDef}
use Rattle.ild_schema.specs.declared.def.StructDef.{StructDef}
use Rattle.ild_schema.specs.declared.number.Slot.{Slot}
use Rattle.ild_schema.specs.declared.row.Row.{Row}
use Rattle.ild_schema.specs.Copies.{base}
use Rattle.ild_schema.specs.Prelude.{anything}
use Rattle.ild_schema.specs.Value.{Value, null, boolean, integer, text, bytes, link, list, map, struct, union, enum, unit, any, hamt, values_list, pairs_list, optionals_list}
use Rattle.ild_splice_changes.specs.TreeChange.{nth, replace, insert_item, remove_item, Located, unchanged, one, applied}
use Rattle.ild_splice_changes.proofs.Shapes.{list_data}
use Rattle.ild_typed.specs.Strings.{map_data}
use Rattle.ild_splice_changes.specs.Differences.{at_key}
use Rattle.ild_schema.specs.Slots.{form_of}
use Rattle.ild_typed.specs.Composed.{Hamts, struct_form}
use Rattle.ild_typed.specs.Represented.{represented}
use Rattle.ild_schema.specs.Clear.{IsClear, ClearStruct}
use Rattle.ild_typed.specs.Holder.{Holder, member, fields, any_entries, any_elements, holder_of, data_in, list_holder, map_holder, struct_holder, union_holder}
use Rattle.ild_typed.specs.Segment.{set_part, set_field, at_index, index_of}
use Rattle.ild_path_edits.specs.Table.{slot_to_set, slot_to_insert, refusal_to_delete, insert_part, delete_part, new_index, declared_slot, field_kept}
use Rattle.ild_value_meaning.proofs.Told.{AreToldApart}
use Rattle.ild_path_changes.specs.Places.{each_field, field_named, field_data}
use Rattle.ild_path_changes.proofs.Datas.{data_of}
use Rattle.ild_path_changes.specs.Lift.{whole}
use Rattle.ild_path_changes.specs.LastLift.{struct_last, at_place, with_data, set_seen, insert_seen, delete_seen}
use Rattle.ild_value_meaning.proofs.ByParts.{ByParts}
use Rattle.ild_path_changes.proofs.Last.{each_field-gone, map_remove}
use Rattle.ild_path_changes.proofs.LastLifting.{struct_last_law, declared_field, named_to_go, map_set_law, map_gone_law, list_set_law, list_insert_law, list_gone_law}
use Rattle.ild_path_changes.proofs.Lifting.{each_field-set}
use Rattle.ild_path_changes.proofs.Others.{map_set}
use Rattle.ild_path_changes.proofs.Represented.{each_field-some, each_itself, pairs_themselves, inside_data}
use Rattle.ild_path_edits.proofs.Typing.{entries_rise}
use Rattle.ild_path_edits.proofs.HeldTyped.{inside_of_type, left_out as declared_too}

place_got : {X Y : Type 0} (y r : Y) (p : Option X) → option_map (λ x. y) p ≡ Some r → (x : X) × (p ≡ Some x)
place_got y r None h = absurd (none-some r h)
place_got y r (Some x) h = (x, refl)

place_there : {X Y : Type 0} (xs : List X) (o : Option ℕ) (y r : Y) → option_map (λ x. y) (option_and_then (λ i. slice_get xs i) o) ≡ Some r → (i : ℕ) → o ≡ Some i → (x : X) × (slice_get xs i ≡ Some x)
place_there xs o y r h i e = place_got y r (slice_get xs i) (sym (ap (λ o. option_map (λ x. y) (option_and_then (λ i. slice_get xs i) o)) e) ∙ h)

module _ (rows : List Row) (is_key : ℕ → List ℕ → Bool) (apart : AreToldApart rows) (any_there : form_of rows anything ≡ Some T.Any) (clear : IsClear rows) (at : Hamts) where
  abbrev rep : Slot → Value → Option Data
  rep slot v = represented at rows slot v

  abbrev pub Of : Slot → Value → Type 0
  Of slot v = ByParts rows is_key slot v

  -- the data of the holder h become those of k, which is seen at l
  abbrev pub Seen : Slot → Option TypeDef → Holder → Holder → (Option Data → Located) → Type 0
  Seen slot F h k l = (u : Option Data) (t n : Data) → data_of at F (represented at rows) slot h ≡ Some t → data_of at F (represented at rows) slot k ≡ Some n → u ≡ Some n → n ≡ applied (l u) t

  clear_struct : (slot : Slot) (r : StructDef) → form_of rows slot ≡ Some (T.Struct r) → ClearStruct r.form r.fields
  clear_struct slot r f = clear.types (base rows slot.ty.0) (T.Struct r) f

  whole_seen : (slot : Slot) (F : Option TypeDef) (h k : Holder) → Seen slot F h k whole
  whole_seen slot F h k u t n was now after = ap (λ o. applied (whole o) t) (sym after)

  -- fields
  field_set : (slot : Slot) (r : StructDef) (os : List (Option Value)) (s : List ℕ) (w : Value) (q : Slot) → form_of rows slot ≡ Some (T.Struct r) → declared_slot s r.fields os ≡ Some q
      → Seen slot (Some (T.Struct r)) (fields r.fields os) (fields r.fields (set_field s (Some w) r.fields os)) (λ u. set_seen (Some (T.Struct r)) (represented at rows) (fields r.fields os) s w u)
  field_set slot r os s w q f h u t n was now after =
      let fs = r.fields in
      let y = declared_field s fs os q h in
      let g = y.declared in
      let a = chain_some (λ ds. struct_form r.form fs ds) (each_field (represented at rows) fs os) t was in
      let b = chain_some (λ ds. struct_form r.form fs ds) (each_field (represented at rows) fs (set_field s (Some w) fs os)) n now in
      let x = each_field-some (represented at rows) s fs (set_field s (Some w) fs os) b.0 g w b.1 y.named (y.set w) in
      let set = each_field-set (represented at rows) s w x.0 fs os a.0 g a.1 y.named x.1 in
      let made : struct_form r.form fs (set_field s (Some x.0) fs a.0) ≡ Some n = sym (ap (option_and_then (λ ds. struct_form r.form fs ds)) set) ∙ now in
      struct_last_law r.form fs a.0 s g (Some x.0) t n u (clear_struct slot r f) y.named a.2 made after
      ∙ (λ i. applied (struct_last r.form s fs a.0 g (field_data s fs a.0) (sym x.1 i) u) t)
      ∙ ap (λ o. applied (option_map_or (λ g. struct_last r.form s fs a.0 g (field_data s fs a.0) (rep g.slot w) u) o unchanged) t) (sym y.named)
      ∙ ap (λ o. applied (option_map_or (λ ds. option_map_or (λ g. struct_last r.form s fs ds g (field_data s fs ds) (rep g.slot w) u) (field_named s fs) unchanged) o unchanged) t) (sym a.1)

  field_gone : (slot : Slot) (r : StructDef) (os : List (Option Value)) (s : List ℕ) → form_of rows slot ≡ Some (T.Struct r) → field_kept s r.fields os ≡ None
      → Seen slot (Some (T.Struct r)) (fields r.fields os) (fields r.fields (set_field s None r.fields os)) (λ u. delete_seen (Some (T.Struct r)) (represented at rows) (fields r.fields os) s u)
  field_gone slot r os s f h u t n was now after =
      let fs = r.fields in
      let y = named_to_go s fs os h in
      let a = chain_some (λ ds. struct_form r.form fs ds) (each_field (represented at rows) fs os) t was in
      let gone = each_field-gone (represented at rows) s fs os a.0 a.1 in
      let made : struct_form r.form fs (set_field s None fs a.0) ≡ Some n = sym (ap (option_and_then (λ ds. struct_form r.form fs ds)) gone) ∙ now in
      struct_last_law r.form fs a.0 s y.0 None t n u (clear_struct slot r f) y.1 a.2 made after
      ∙ ap (λ o. applied (option_map_or (λ g. struct_last r.form s fs a.0 g (field_data s fs a.0) None u) o unchanged) t) (sym y.1)
      ∙ ap (λ o. applied (option_map_or (λ ds. option_map_or (λ g. struct_last r.form s fs ds g (field_data s fs ds) None u) (field_named s fs) unchanged) o unchanged) t) (sym a.1)

  -- inside an Any
  inside_new : (w : Value) → Of anything w → rep anything w ≡ Some (data_in w)
  inside_new w h = ap (represented at rows anything) (sym (inside_of_type rows is_key apart any_there w h)) ∙ inside_data at rows any_there (data_in w)

  anything_is : (slot : Slot) (w : Value) → anything ≡ slot → Of slot w → Of anything w
  anything_is slot w e h = subst (λ r. Of r w) (sym e) h

  key_set : (slot : Slot) (ms : List (List ℕ × Data)) (s : List ℕ) (w : Value) → Rises ms → Of anything w
      → Seen slot (Some T.Any) (any_entries ms) (any_entries (put s (data_in w) ms)) (λ u. at_key s (value_at s ms) (rep anything w))
  key_set slot ms s w up new u t n was now after =
      let m = map_set (λ d. Some d) ms ms s (data_in w) (data_in w) (pairs_themselves ms) up refl in
      sym (same_Some _ n now) ∙ m.1 ∙ (λ i. applied (at_key s (itself (value_at s ms) i) (sym (inside_new w new) i)) (same_Some (map_data ms) t was i))
    where
      itself : (o : Option Data) → option_and_then (λ d. Some d) o ≡ o
      itself None = refl
      itself (Some d) = refl

  key_gone : (slot : Slot) (ms : List (List ℕ × Data)) (s : List ℕ) → Rises ms → Seen slot (Some T.Any) (any_entries ms) (any_entries (without s ms)) (λ u. at_key s (value_at s ms) None)
  key_gone slot ms s up u t n was now after =
      let m = map_remove (λ d. Some d) ms ms s (pairs_themselves ms) up in
      sym (same_Some _ n now) ∙ m.1 ∙ (λ i. applied (at_key s (itself (value_at s ms) i) None) (same_Some (map_data ms) t was i))
    where
      itself : (o : Option Data) → option_and_then (λ d. Some d) o ≡ o
      itself None = refl
      itself (Some d) = refl

  any_is : {X : Type 0} (o : Option X) (r : Slot) → option_map (λ d. anything) o ≡ Some r → anything ≡ r
  any_is None r e = absurd (none-some r e)
  any_is (Some x) r e = same_Some anything r e

  any_list_set : (ds : List Data) (s : List ℕ) (w : Value) (t n : Data) → ((i : ℕ) → index_of s ≡ Some i → (x : Data) × (slice_get ds i ≡ Some x)) → Of anything w
      → Some (list_data ds) ≡ Some t → Some (list_data (at_index (λ i ys. slice_set ys i (data_in w)) (index_of s) ds)) ≡ Some n
      → n ≡ applied (at_place (λ i. with_data (λ x. one (nth i ∷ []) (replace x)) (rep anything w)) (index_of s)) t
  any_list_set ds s w t n there new was now =
      list_set_law (λ d. Some d) ds (index_of s) (data_in w) t n there (ap (option_and_then (λ ds. Some (list_data ds))) (each_itself ds) ∙ was)
      (ap (option_and_then (λ ds. Some (list_data ds))) (each_itself (at_index (λ i ys. slice_set ys i (data_in w)) (index_of s) ds)) ∙ now)
      ∙ (λ k. applied (at_place (λ i. with_data (λ x. one (nth i ∷ []) (replace x)) (sym (inside_new w new) k)) (index_of s)) t)

  any_list_insert : (ds : List Data) (o : Option ℕ) (w : Value) (t n : Data) → Of anything w
      → Some (list_data ds) ≡ Some t → Some (list_data (at_index (λ i ys. insert ys i (data_in w)) o ds)) ≡ Some n
      → n ≡ applied (at_place (λ i. with_data (λ x. one [] (insert_item i x)) (rep anything w)) o) t
  any_list_insert ds o w t n new was now =
      list_insert_law (λ d. Some d) ds o (data_in w) t n (ap (option_and_then (λ ds. Some (list_data ds))) (each_itself ds) ∙ was)
      (ap (option_and_then (λ ds. Some (list_data ds))) (each_itself (at_index (λ i ys. insert ys i (data_in w)) o ds)) ∙ now)
      ∙ (λ k. applied (at_place (λ i. with_data (λ x. one [] (insert_item i x)) (sym (inside_new w new) k)) o) t)

  any_list_gone : (ds : List Data) (o : Option ℕ) (t n : Data) → Some (list_data ds) ≡ Some t → Some (list_data (at_index (λ i ys. remove ys i) o ds)) ≡ Some n
      → n ≡ applied (at_place (λ i. one [] (remove_item i)) o) t
  any_list_gone ds o t n was now =
      list_gone_law (λ d. Some d) ds o t n (ap (option_and_then (λ ds. Some (list_data ds))) (each_itself ds) ∙ was)
      (ap (option_and_then (λ ds. Some (list_data ds))) (each_itself (at_index (λ i ys. remove ys i) o ds)) ∙ now)

  -- set
  pub set_is_seen : (slot : Slot) (v : Value) (s : List ℕ) (w : Value) (r : Slot) → Of slot v → slot_to_set (holder_of rows slot v) s ≡ Some r → Of r w
      → Seen slot (form_of rows slot) (holder_of rows slot v) (set_part (holder_of rows slot v) s w) (λ u. set_seen (form_of rows slot) (represented at rows) (holder_of rows slot v) s w u)
  set_is_seen slot null s w r h e new = absurd (none-some r e)
  set_is_seen slot (boolean b) s w r h e new = absurd (none-some r e)
  set_is_seen slot (integer k) s w r h e new = absurd (none-some r e)
  set_is_seen slot (text y) s w r h e new = absurd (none-some r e)
  set_is_seen slot (bytes y) s w r h e new = absurd (none-some r e)
  set_is_seen slot (link y) s w r h e new = absurd (none-some r e)
  set_is_seen slot (list vs) s w r h e new =
      subst (λ F. Seen slot F (list_holder F vs) (set_part (list_holder F vs) s w) (λ u. set_seen F (represented at rows) (list_holder F vs) s w u)) (sym h.2)
      (λ u t n was now after. list_set_law (rep h.0) (values_list vs) (index_of s) w t n (place_there (values_list vs) (index_of s) h.0 r (ap (λ g. slot_to_set (list_holder g vs) s) (sym h.2) ∙ e)) was now)
  set_is_seen slot (map ps) s w r h e new =
      subst (λ F. Seen slot F (map_holder F ps) (set_part (map_holder F ps) s w) (λ u. set_seen F (represented at rows) (map_holder F ps) s w u)) (sym h.5)
      (λ u t n was now after. map_set_law at h.4 (rep h.2) (pairs_list ps) s w t n u h.7 was now after)
  set_is_seen slot (struct os) s w r h e new =
      subst (λ F. Seen slot F (struct_holder F os) (set_part (struct_holder F os) s w) (λ u. set_seen F (represented at rows) (struct_holder F os) s w u)) (sym h.1)
      (field_set slot h.0 (optionals_list os) s w r h.1 (ap (λ g. slot_to_set (struct_holder g os) s) (sym h.1) ∙ e))
  set_is_seen slot (union k v) s w r h e new =
      subst (λ F. Seen slot F (union_holder F k v) (set_part (union_holder F k v) s w) (λ u. set_seen F (represented at rows) (union_holder F k v) s w u)) (sym h.2)
      (whole_seen slot (Some (T.Union h.0)) (member (h.0).members k v) (set_part (member (h.0).members k v) s w))
  set_is_seen slot (any (D.list ds)) s w r h e new =
      subst (λ F. Seen slot F (any_elements (items_list ds)) (set_part (any_elements (items_list ds)) s w) (λ u. set_seen F (represented at rows) (any_elements (items_list ds)) s w u)) (sym h.0)
      (λ u t n was now after. any_list_set (items_list ds) s w t n (place_there (items_list ds) (index_of s) anything r e) (anything_is r w (any_is (option_and_then (λ i. slice_get (items_list ds) i) (index_of s)) r e) new) was now)
  set_is_seen slot (any (D.map ms)) s w r h e new =
      subst (λ F. Seen slot F (any_entries (members_list ms)) (set_part (any_entries (members_list ms)) s w) (λ u. set_seen F (represented at rows) (any_entries (members_list ms)) s w u)) (sym h.0)
      (key_set slot (members_list ms) s w (entries_rise ms h.2) (anything_is r w (same_Some anything r e) new))
  set_is_seen slot (enum k) s w r h e new = absurd (none-some r e)
  set_is_seen slot unit s w r h e new = absurd (none-some r e)
  set_is_seen slot (hamt x) s w r h e new = absurd (none-some r e)
  set_is_seen slot (any D.null) s w r h e new = absurd (none-some r e)
  set_is_seen slot (any (D.boolean b)) s w r h e new = absurd (none-some r e)
  set_is_seen slot (any (D.integer k)) s w r h e new = absurd (none-some r e)
  set_is_seen slot (any (D.text y)) s w r h e new = absurd (none-some r e)
  set_is_seen slot (any (D.bytes y)) s w r h e new = absurd (none-some r e)
  set_is_seen slot (any (D.link y)) s w r h e new = absurd (none-some r e)

  -- insert
  if_free : {X : Type 0} (b : Bool) (x r : X) → cond b None (Some x) ≡ Some r → x ≡ r
  if_free true x r e = absurd (none-some r e)
  if_free false x r e = same_Some x r e

  pub insert_is_seen : (slot : Slot) (v : Value) (s : List ℕ) (w : Value) (r : Slot) → Of slot v → slot_to_insert (holder_of rows slot v) s ≡ Some r → Of r w
      → Seen slot (form_of rows slot) (holder_of rows slot v) (insert_part (holder_of rows slot v) s w) (λ u. insert_seen (form_of rows slot) (represented at rows) (holder_of rows slot v) s w u)
  insert_is_seen slot null s w r h e new = absurd (none-some r e)
  insert_is_seen slot (boolean b) s w r h e new = absurd (none-some r e)
  insert_is_seen slot (integer k) s w r h e new = absurd (none-some r e)
  insert_is_seen slot (text y) s w r h e new = absurd (none-some r e)
  insert_is_seen slot (bytes y) s w r h e new = absurd (none-some r e)
  insert_is_seen slot (link y) s w r h e new = absurd (none-some r e)
  insert_is_seen slot (list vs) s w r h e new =
      subst (λ F. Seen slot F (list_holder F vs) (insert_part (list_holder F vs) s w) (λ u. insert_seen F (represented at rows) (list_holder F vs) s w u)) (sym h.2)
      (λ u t n was now after. list_insert_law (rep h.0) (values_list vs) (new_index (length (values_list vs)) s) w t n was now)
  insert_is_seen slot (map ps) s w r h e new =
      subst (λ F. Seen slot F (map_holder F ps) (insert_part (map_holder F ps) s w) (λ u. insert_seen F (represented at rows) (map_holder F ps) s w u)) (sym h.5)
      (λ u t n was now after. map_set_law at h.4 (rep h.2) (pairs_list ps) s w t n u h.7 was now after)
  insert_is_seen slot (struct os) s w r h e new =
      subst (λ F. Seen slot F (struct_holder F os) (insert_part (struct_holder F os) s w) (λ u. insert_seen F (represented at rows) (struct_holder F os) s w u)) (sym h.1)
      (field_set slot h.0 (optionals_list os) s w r h.1 (declared_too rows is_key apart any_there s (h.0).fields (optionals_list os) r (ap (λ g. slot_to_insert (struct_holder g os) s) (sym h.1) ∙ e)))
  insert_is_seen slot (union k v) s w r h e new = absurd (none-some r (ap (λ g. slot_to_insert (union_holder g k v) s) (sym h.2) ∙ e))
  insert_is_seen slot (any (D.list ds)) s w r h e new =
      subst (λ F. Seen slot F (any_elements (items_list ds)) (insert_part (any_elements (items_list ds)) s w) (λ u. insert_seen F (represented at rows) (any_elements (items_list ds)) s w u)) (sym h.0)
      (λ u t n was now after. any_list_insert (items_list ds) (new_index (length (items_list ds)) s) w t n (anything_is r w (any_is (new_index (length (items_list ds)) s) r e) new) was now)
  insert_is_seen slot (any (D.map ms)) s w r h e new =
      subst (λ F. Seen slot F (any_entries (members_list ms)) (insert_part (any_entries (members_list ms)) s w) (λ u. insert_seen F (represented at rows) (any_entries (members_list ms)) s w u)) (sym h.0)
      (key_set slot (members_list ms) s w (entries_rise ms h.2) (anything_is r w (if_free (is_some (value_at s (members_list ms))) anything r e) new))
  insert_is_seen slot (enum k) s w r h e new = absurd (none-some r e)
  insert_is_seen slot unit s w r h e new = absurd (none-some r e)
  insert_is_seen slot (hamt x) s w r h e new = absurd (none-some r e)
  insert_is_seen slot (any D.null) s w r h e new = absurd (none-some r e)
  insert_is_seen slot (any (D.boolean b)) s w r h e new = absurd (none-some r e)
  insert_is_seen slot (any (D.integer k)) s w r h e new = absurd (none-some r e)
  insert_is_seen slot (any (D.text y)) s w r h e new = absurd (none-some r e)
  insert_is_seen slot (any (D.bytes y)) s w r h e new = absurd (none-some r e)
  insert_is_seen slot (any (D.link y)) s w r h e new = absurd (none-some r e)

  -- delete
  pub delete_is_seen : (slot : Slot) (v : Value) (s : List ℕ) → Of slot v → refusal_to_delete (holder_of rows slot v) s ≡ None
      → Seen slot (form_of rows slot) (holder_of rows slot v) (delete_part (holder_of rows slot v) s) (λ u. delete_seen (form_of rows slot) (represented at rows) (holder_of rows slot v) s u)
  delete_is_seen slot null s h e = absurd (none-some _ (sym e))
  delete_is_seen slot (boolean b) s h e = absurd (none-some _ (sym e))
  delete_is_seen slot (integer k) s h e = absurd (none-some _ (sym e))
  delete_is_seen slot (text y) s h e = absurd (none-some _ (sym e))
  delete_is_seen slot (bytes y) s h e = absurd (none-some _ (sym e))
  delete_is_seen slot (link y) s h e = absurd (none-some _ (sym e))
  delete_is_seen slot (list vs) s h e =
      subst (λ F. Seen slot F (list_holder F vs) (delete_part (list_holder F vs) s) (λ u. delete_seen F (represented at rows) (list_holder F vs) s u)) (sym h.2)
      (λ u t n was now after. list_gone_law (rep h.0) (values_list vs) (index_of s) t n was now)
  delete_is_seen slot (map ps) s h e =
      subst (λ F. Seen slot F (map_holder F ps) (delete_part (map_holder F ps) s) (λ u. delete_seen F (represented at rows) (map_holder F ps) s u)) (sym h.5)
      (λ u t n was now after. map_gone_law at h.4 (rep h.2) (pairs_list ps) s t n u h.7 was now after)
  delete_is_seen slot (struct os) s h e =
      subst (λ F. Seen slot F (struct_holder F os) (delete_part (struct_holder F os) s) (λ u. delete_seen F (represented at rows) (struct_holder F os) s u)) (sym h.1)
      (field_gone slot h.0 (optionals_list os) s h.1 (ap (λ g. refusal_to_delete (struct_holder g os) s) (sym h.1) ∙ e))
  delete_is_seen slot (union k v) s h e =
      subst (λ F. Seen slot F (union_holder F k v) (delete_part (union_holder F k v) s) (λ u. delete_seen F (represented at rows) (union_holder F k v) s u)) (sym h.2)
      (whole_seen slot (Some (T.Union h.0)) (member (h.0).members k v) (delete_part (member (h.0).members k v) s))
  delete_is_seen slot (any (D.list ds)) s h e =
      subst (λ F. Seen slot F (any_elements (items_list ds)) (delete_part (any_elements (items_list ds)) s) (λ u. delete_seen F (represented at rows) (any_elements (items_list ds)) s u)) (sym h.0)
      (λ u t n was now after. any_list_gone (items_list ds) (index_of s) t n was now)
  delete_is_seen slot (any (D.map ms)) s h e =
      subst (λ F. Seen slot F (any_entries (members_list ms)) (delete_part (any_entries (members_list ms)) s) (λ u. delete_seen F (represented at rows) (any_entries (members_list ms)) s u)) (sym h.0)
      (key_gone slot (members_list ms) s (entries_rise ms h.2))
  delete_is_seen slot (enum k) s h e = absurd (none-some _ (sym e))
  delete_is_seen slot unit s h e = absurd (none-some _ (sym e))
  delete_is_seen slot (hamt x) s h e = absurd (none-some _ (sym e))
  delete_is_seen slot (any D.null) s h e = absurd (none-some _ (sym e))
  delete_is_seen slot (any (D.boolean b)) s h e = absurd (none-some _ (sym e))
  delete_is_seen slot (any (D.integer k)) s h e = absurd (none-some _ (sym e))
  delete_is_seen slot (any (D.text y)) s h e = absurd (none-some _ (sym e))
  delete_is_seen slot (any (D.bytes y)) s h e = absurd (none-some _ (sym e))
  delete_is_seen slot (any (D.link y)) s h e = absurd (none-some _ (sym e))
