-- What comes, goes or becomes another in the last holder: one law a form.
use Rattle.ild_data.proofs.Options.{chain_some, map_some}
use Rattle.ild_data.specs.Data as D
use Rattle.ild_schema.specs.declared.def.MapForm.TheVariants as M
use Rattle.ild_schema.specs.declared.def.StructForm.TheVariants as S
use Rattle.ild_typed.specs.Layer as L
use Rattle.std.proofs.Common.{cond, ◌≡◌, ℕ, zero, suc, List, [], ◌∷◌, length, insert, slice_get, Bool, true, false, Option, Some, None, refl, ap, sym, ◌∙◌}
use Rattle.std.specs.Prelude.{slice_set, option_map, option_and_then, remove, ◌&&◌}
use Rattle.std.proofs.lemmas.Option.{same_Some, none-some}
use Rattle.ild_data.specs.Data.{Data, items_of}
use Rattle.ild_data.specs.Key.{same_text, value_at, without}
use Rattle.ild_schema.specs.declared.def.MapForm.{MapForm}
use Rattle.ild_schema.specs.declared.def.StructForm.{StructForm}
use Rattle.ild_schema.specs.declared.def.Field.{Field}
use Rattle.ild_schema.specs.declared.number.Slot.{Slot}
use Rattle.ild_schema.specs.Value.{Value}
use Rattle.ild_splice_changes.specs.TreeChange.{nth, replace, insert_item, remove_item, one, applied, changed}
use Rattle.ild_typed.specs.Strings.{map_data, listpairs as pairs_data, in_key_order as sorted, listpairs}
use Rattle.ild_splice_changes.proofs.Shapes.{list_data}
use Rattle.ild_splice_changes.specs.Differences.{at_key, at_item}
use Rattle.ild_path_changes.specs.Pairs.{at_pair}
use Rattle.ild_path_changes.proofs.Pairs.{one_pair}
use Rattle.ild_schema.specs.Marks.{field_text as represented_name}
use Rattle.ild_typed.specs.Fields.{field_entries, are_absent, tuple_items as typed_items}
use Rattle.ild_typed.specs.Composed.{Hamts, map_form, struct_form}
use Rattle.ild_schema.specs.Clear.{ClearStruct}
use Rattle.ild_typed.specs.Holder.{is_paired}
use Rattle.ild_typed.specs.Segment.{put_by, at_index, set_field}
use Rattle.ild_path_edits.specs.Table.{declared_slot, field_kept, if_present}
use Rattle.ild_path_changes.proofs.Datas.{each, each_pair, all_absent, tuple_items}
use Rattle.ild_path_changes.specs.Places.{written, field_named, field_data, place_of, left_out, field_place, written_before}
use Rattle.ild_path_changes.specs.Lift.{whole}
use Rattle.ild_path_changes.specs.LastLift.{struct_last, map_last, at_place, with_data}
use Rattle.ild_value_meaning.proofs.ByParts.{AreInOrder}
use Rattle.ild_path_changes.proofs.Each.{joined, each_pair-at}
use Rattle.ild_path_edits.proofs.Entries.{put_by-there, set-there}
use Rattle.ild_path_changes.proofs.Fields.{struct_map, around, struct_tuple}
use Rattle.ild_path_changes.proofs.Last.{list_insert, list_remove, map_remove, pairs_remove}
use Rattle.ild_path_changes.proofs.Lifting.{place_same, written_is}
use Rattle.ild_path_changes.proofs.Others.{list_set, map_set, pairs_set}
use Rattle.ild_path_changes.proofs.Represented.{each-some, each_pair-some}

-- what a tuple's items are, without the declarations
some_of_true : (b : Bool) (xs : List Data) → b ≡ true → cond b (Some []) None ≡ Some xs → Some [] ≡ Some xs
some_of_true true xs e h = h
some_of_true false xs e h = absurd cc

both_first : (a b : Bool) → (a && b) ≡ true → b ≡ true
both_first true b h = h
both_first false b h = absurd cc

absent_plain : (fs : List Field) (ds : List (Option Data)) → are_absent fs ds ≡ true → all_absent ds ≡ true
absent_plain [] [] h = refl
absent_plain [] (o ∷ os) h = absurd cc
absent_plain (f ∷ fs) [] h = refl
absent_plain (f ∷ fs) (Some d ∷ os) h = absurd cc
absent_plain (f ∷ fs) (None ∷ os) h = absent_plain fs os (both_first f.optional (are_absent fs os) h)

absent_count : (fs : List Field) (ds : List (Option Data)) → are_absent fs ds ≡ true → length fs ≡ length ds
absent_count [] [] h = refl
absent_count [] (o ∷ os) h = absurd cc
absent_count (f ∷ fs) [] h = absurd cc
absent_count (f ∷ fs) (Some d ∷ os) h = absurd cc
absent_count (f ∷ fs) (None ∷ os) h = ap (λ n. suc n) (absent_count fs os (both_first f.optional (are_absent fs os) h))

pub record IsPlain (fs : List Field) (ds : List (Option Data)) (xs : List Data) : Type 0 where
  pub items : tuple_items ds ≡ Some xs
  pub count : length fs ≡ length ds

absent_case : (f : Field) (fs : List Field) (os : List (Option Data)) (xs : List Data) (b : Bool) → are_absent (f ∷ fs) (None ∷ os) ≡ b → cond b (Some []) None ≡ Some xs → IsPlain (f ∷ fs) (None ∷ os) xs
absent_case f fs os xs true e h =
    let a : all_absent os ≡ true = absent_plain (f ∷ fs) (None ∷ os) e in
    record { items = ap (λ c. cond c (Some []) None) a ∙ h; count = absent_count (f ∷ fs) (None ∷ os) e }
absent_case f fs os xs false e h = absurd (none-some xs h)

pub plain_items : (fs : List Field) (ds : List (Option Data)) (xs : List Data) → typed_items fs ds ≡ Some xs → IsPlain fs ds xs
plain_items [] [] xs h = record { items = h; count = refl }
plain_items [] (o ∷ os) xs h = absurd (none-some xs h)
plain_items (f ∷ fs) [] xs h = absurd (none-some xs h)
plain_items (f ∷ fs) (Some d ∷ os) xs h =
    let x = map_some (λ ys. d ∷ ys) (typed_items fs os) xs h in
    let r = plain_items fs os x.0 x.1 in
    record { items = ap (λ o. option_map (λ ys. d ∷ ys) o) r.items ∙ ap Some x.2; count = ap (λ n. suc n) r.count }
plain_items (f ∷ fs) (None ∷ os) xs h = absent_case f fs os xs (are_absent (f ∷ fs) (None ∷ os)) refl h

-- a struct
pub struct_last_law : (m : StructForm) (fs : List Field) (ds : List (Option Data)) (s : List ℕ) (g : Field) (o : Option Data) (t n : Data) (u : Option Data) → ClearStruct m fs → field_named s fs ≡ Some g
    → struct_form m fs ds ≡ Some t → struct_form m fs (set_field s o fs ds) ≡ Some n → u ≡ Some n → n ≡ applied (struct_last m s fs ds g (field_data s fs ds) o u) t
struct_last_law S.Map fs ds s g o t n u clear named was now after =
    let x = map_some (λ es. map_data (sorted es)) (field_entries fs ds) t was in
    let y = map_some (λ es. map_data (sorted es)) (field_entries fs (set_field s o fs ds)) n now in
    let a = written_is fs ds x.0 x.1 in
    let b = written_is fs (set_field s o fs ds) y.0 y.1 in
    sym y.2 ∙ ap (λ es. map_data (sorted es)) b.same ∙ struct_map left_out s o fs ds g clear.apart a.count named
    ∙ ap (applied (at_key (represented_name g) (written left_out g (field_data s fs ds)) (written left_out g o))) (ap (λ es. map_data (sorted es)) (sym a.same) ∙ x.2)
struct_last_law S.Tuple fs ds s g o t n u clear named was now after =
    let x = map_some (λ xs. D.list (items_of xs)) (typed_items fs ds) t was in
    let y = map_some (λ xs. D.list (items_of xs)) (typed_items fs (set_field s o fs ds)) n now in
    let a = plain_items fs ds x.0 x.1 in
    let b = plain_items fs (set_field s o fs ds) y.0 y.1 in
    sym y.2 ∙ struct_tuple s o fs ds g x.0 y.0 a.count named a.items b.items ∙ ap (applied (at_item (field_place s fs) (field_data s fs ds) o)) x.2
struct_last_law S.ListPairs fs ds s g o t n u clear named was now after =
    let x = map_some listpairs (field_entries fs ds) t was in
    let y = map_some listpairs (field_entries fs (set_field s o fs ds)) n now in
    let a = written_is fs ds x.0 x.1 in
    let b = written_is fs (set_field s o fs ds) y.0 y.1 in
    let r = around left_out s fs ds g a.count named in
    let k = represented_name g in
    sym y.2 ∙ ap pairs_data b.same ∙ ap pairs_data (r.set o) ∙ one_pair k r.front r.behind (written left_out g (field_data s fs ds)) (written left_out g o)
    ∙ (λ i. applied (at_pair (r.placed i) k (written left_out g (field_data s fs ds)) (written left_out g o)) (pairs_data (sym r.now i)))
    ∙ ap (applied (at_pair (written_before left_out s fs ds) k (written left_out g (field_data s fs ds)) (written left_out g o))) (ap pairs_data (sym a.same) ∙ x.2)
struct_last_law (S.StringPairs inner entry) fs ds s g o t n u clear named was now after = ap (λ o. applied (whole o) t) (sym after)
struct_last_law (S.StringJoin delim) fs ds s g o t n u clear named was now after = ap (λ o. applied (whole o) t) (sym after)

-- a declared field that is set
pub record IsDeclared (s : List ℕ) (fs : List Field) (os : List (Option Value)) (slot : Slot) : Type 0 where
  pub declared : Field
  pub named : field_named s fs ≡ Some declared
  pub in_slot : declared.slot ≡ slot
  pub set : (w : Value) → field_data s fs (set_field s (Some w) fs os) ≡ Some w

declared_at : (s : List ℕ) (f : Field) (fs : List Field) (o : Option Value) (os : List (Option Value)) (slot : Slot) (b : Bool) → same_text s f.name ≡ b → cond b (Some f.slot) (declared_slot s fs os) ≡ Some slot
    → (declared_slot s fs os ≡ Some slot → IsDeclared s fs os slot) → IsDeclared s (f ∷ fs) (o ∷ os) slot
declared_at s f fs o os slot true e h rest = record { declared = f; named = rw e refl; in_slot = same_Some f.slot slot h; set = λ w. rw e (set_true w) }
  where
    set_true : (w : Value) → cond (same_text s f.name) (Some w) (field_data s fs os) ≡ Some w
    set_true w = ap (λ c. cond c (Some w) (field_data s fs os)) e
declared_at s f fs o os slot false e h rest =
    let r = rest h in
    record { declared = r.declared; named = rw e r.named; in_slot = r.in_slot; set = λ w. rw e (set_false r w) }
  where
    set_false : (r : IsDeclared s fs os slot) (w : Value) → cond (same_text s f.name) o (field_data s fs (set_field s (Some w) fs os)) ≡ Some w
    set_false r w = ap (λ c. cond c o (field_data s fs (set_field s (Some w) fs os))) e ∙ r.set w

pub declared_field : (s : List ℕ) (fs : List Field) (os : List (Option Value)) (slot : Slot) → declared_slot s fs os ≡ Some slot → IsDeclared s fs os slot
declared_field s [] os slot h = absurd (none-some slot h)
declared_field s (f ∷ fs) [] slot h = absurd (none-some slot h)
declared_field s (f ∷ fs) (o ∷ os) slot h = declared_at s f fs o os slot (same_text s f.name) refl h (λ g. declared_field s fs os slot g)

kept_at : (s : List ℕ) (f : Field) (fs : List Field) (o : Option Value) (os : List (Option Value)) (b : Bool) → cond b (if_present f.optional o) (field_kept s fs os) ≡ None
    → (field_kept s fs os ≡ None → (g : Field) × (field_named s fs ≡ Some g)) → (g : Field) × (cond b (Some f) (field_named s fs) ≡ Some g)
kept_at s f fs o os true h rest = (f, refl)
kept_at s f fs o os false h rest = rest h

pub named_to_go : (s : List ℕ) (fs : List Field) (os : List (Option Value)) → field_kept s fs os ≡ None → (g : Field) × (field_named s fs ≡ Some g)
named_to_go s [] os h = absurd (none-some _ (sym h))
named_to_go s (f ∷ fs) [] h = absurd (none-some _ (sym h))
named_to_go s (f ∷ fs) (o ∷ os) h = kept_at s f fs o os (same_text s f.name) h (λ g. named_to_go s fs os g)

-- a map
set_entry : (at : Hamts) (g : MapForm) (f : Value → Option Data) (ps : List (List ℕ × Value)) (s : List ℕ) (w : Value) (x t n : Data) (es : List (List ℕ × Data)) (u : Option Data) → each_pair f ps ≡ Some es → AreInOrder (is_paired g) ps
    → map_form at g (L.map es) ≡ Some t → f w ≡ Some x → option_and_then (λ ds. map_form at g (L.map ds)) (each_pair f (put_by (is_paired g) s w ps)) ≡ Some n → u ≡ Some n
    → n ≡ applied (map_last g s (place_of s ps) (option_and_then f (value_at s ps)) (Some x) u) t
set_entry at M.Map f ps s w x t n es u all order was q now after =
    let m = map_set f ps es s w x all order q in
    sym (same_Some _ n (sym (ap (λ o. option_and_then (λ ds. map_form at M.Map (L.map ds)) o) m.0) ∙ now)) ∙ m.1
    ∙ ap (applied (at_key s (option_and_then f (value_at s ps)) (Some x))) (same_Some _ t was)
set_entry at M.ListPairs f ps s w x t n es u all order was q now after =
    let m = pairs_set f ps es s w x all q in
    sym (same_Some _ n (sym (ap (λ o. option_and_then (λ ds. map_form at M.ListPairs (L.map ds)) o) m.0) ∙ now)) ∙ m.1
    ∙ (λ i. applied (at_pair (place_same f s ps es all i) s (each_pair-at f ps es s all i) (Some x)) (same_Some (pairs_data es) t was i))
set_entry at (M.StringPairs inner entry) f ps s w x t n es u all order was q now after = ap (λ o. applied (whole o) t) (sym after)
set_entry at (M.Hamt shape) f ps s w x t n es u all order was q now after = ap (λ o. applied (whole o) t) (sym after)

pub map_set_law : (at : Hamts) (g : MapForm) (f : Value → Option Data) (ps : List (List ℕ × Value)) (s : List ℕ) (w : Value) (t n : Data) (u : Option Data) → AreInOrder (is_paired g) ps
    → option_and_then (λ ds. map_form at g (L.map ds)) (each_pair f ps) ≡ Some t → option_and_then (λ ds. map_form at g (L.map ds)) (each_pair f (put_by (is_paired g) s w ps)) ≡ Some n → u ≡ Some n
    → n ≡ applied (map_last g s (place_of s ps) (option_and_then f (value_at s ps)) (f w) u) t
map_set_law at g f ps s w t n u order was now after =
    let a = chain_some (λ ds. map_form at g (L.map ds)) (each_pair f ps) t was in
    let b = chain_some (λ ds. map_form at g (L.map ds)) (each_pair f (put_by (is_paired g) s w ps)) n now in
    let x = each_pair-some f s (put_by (is_paired g) s w ps) b.0 w b.1 (put_by-there (is_paired g) s w ps) in
    set_entry at g f ps s w x.0 t n a.0 u a.1 order a.2 x.1 now after ∙ (λ i. applied (map_last g s (place_of s ps) (option_and_then f (value_at s ps)) (sym x.1 i) u) t)

gone_entry : (at : Hamts) (g : MapForm) (f : Value → Option Data) (ps : List (List ℕ × Value)) (s : List ℕ) (t n : Data) (es : List (List ℕ × Data)) (u : Option Data) → each_pair f ps ≡ Some es → AreInOrder (is_paired g) ps
    → map_form at g (L.map es) ≡ Some t → option_and_then (λ ds. map_form at g (L.map ds)) (each_pair f (without s ps)) ≡ Some n → u ≡ Some n
    → n ≡ applied (map_last g s (place_of s ps) (option_and_then f (value_at s ps)) None u) t
gone_entry at M.Map f ps s t n es u all order was now after =
    let m = map_remove f ps es s all order in
    sym (same_Some _ n (sym (ap (λ o. option_and_then (λ ds. map_form at M.Map (L.map ds)) o) m.0) ∙ now)) ∙ m.1
    ∙ ap (applied (at_key s (option_and_then f (value_at s ps)) None)) (same_Some _ t was)
gone_entry at M.ListPairs f ps s t n es u all order was now after =
    let m = pairs_remove f ps es s D.null all in
    sym (same_Some _ n (sym (ap (λ o. option_and_then (λ ds. map_form at M.ListPairs (L.map ds)) o) m.0) ∙ now)) ∙ m.1
    ∙ (λ i. applied (at_pair (place_same f s ps es all i) s (each_pair-at f ps es s all i) None) (same_Some (pairs_data es) t was i))
gone_entry at (M.StringPairs inner entry) f ps s t n es u all order was now after = ap (λ o. applied (whole o) t) (sym after)
gone_entry at (M.Hamt shape) f ps s t n es u all order was now after = ap (λ o. applied (whole o) t) (sym after)

pub map_gone_law : (at : Hamts) (g : MapForm) (f : Value → Option Data) (ps : List (List ℕ × Value)) (s : List ℕ) (t n : Data) (u : Option Data) → AreInOrder (is_paired g) ps
    → option_and_then (λ ds. map_form at g (L.map ds)) (each_pair f ps) ≡ Some t → option_and_then (λ ds. map_form at g (L.map ds)) (each_pair f (without s ps)) ≡ Some n → u ≡ Some n
    → n ≡ applied (map_last g s (place_of s ps) (option_and_then f (value_at s ps)) None u) t
map_gone_law at g f ps s t n u order was now after =
    let a = chain_some (λ ds. map_form at g (L.map ds)) (each_pair f ps) t was in
    gone_entry at g f ps s t n a.0 u a.1 order a.2 now after

-- a list
each-insert-some : {X : Type 0} (f : X → Option Data) (xs : List X) (i : ℕ) (w : X) (ds : List Data) → each f (insert xs i w) ≡ Some ds → (x : Data) × (f w ≡ Some x)
each-insert-some f [] zero w ds h = let j = joined (f w) (each f []) ds h in (j.first, j.is_first)
each-insert-some f [] (suc i) w ds h = let j = joined (f w) (each f []) ds h in (j.first, j.is_first)
each-insert-some f (y ∷ ys) zero w ds h = let j = joined (f w) (each f (y ∷ ys)) ds h in (j.first, j.is_first)
each-insert-some f (y ∷ ys) (suc i) w ds h = let j = joined (f y) (each f (insert ys i w)) ds h in each-insert-some f ys i w j.rest j.is_rest

pub list_set_law : {X : Type 0} (f : X → Option Data) (xs : List X) (o : Option ℕ) (w : X) (t n : Data) → ((i : ℕ) → o ≡ Some i → (x : X) × (slice_get xs i ≡ Some x))
    → option_and_then (λ ds. Some (list_data ds)) (each f xs) ≡ Some t → option_and_then (λ ds. Some (list_data ds)) (each f (at_index (λ i ys. slice_set ys i w) o xs)) ≡ Some n
    → n ≡ applied (at_place (λ i. with_data (λ x. one (nth i ∷ []) (replace x)) (f w)) o) t
list_set_law f xs None w t n there was now = same_Some n t (sym now ∙ was)
list_set_law f xs (Some i) w t n there was now =
    let a = chain_some (λ ds. Some (list_data ds)) (each f xs) t was in
    let b = chain_some (λ ds. Some (list_data ds)) (each f (slice_set xs i w)) n now in
    let x = there i refl in
    let d = each-some f xs a.0 i x.0 a.1 x.1 in
    let e = each-some f (slice_set xs i w) b.0 i w b.1 (set-there xs i x.0 w x.1) in
    let l = list_set f xs a.0 i x.0 w d.0 e.0 a.1 x.1 d.1 e.1 in
    sym (same_Some _ n (sym (ap (λ o. option_and_then (λ ds. Some (list_data ds)) o) l.0) ∙ now)) ∙ l.1 ∙ ap (changed (nth i ∷ []) (replace e.0)) (same_Some _ t a.2)
    ∙ (λ k. applied (with_data (λ x. one (nth i ∷ []) (replace x)) (sym e.1 k)) t)

pub list_insert_law : {X : Type 0} (f : X → Option Data) (xs : List X) (o : Option ℕ) (w : X) (t n : Data)
    → option_and_then (λ ds. Some (list_data ds)) (each f xs) ≡ Some t → option_and_then (λ ds. Some (list_data ds)) (each f (at_index (λ i ys. insert ys i w) o xs)) ≡ Some n
    → n ≡ applied (at_place (λ i. with_data (λ x. one [] (insert_item i x)) (f w)) o) t
list_insert_law f xs None w t n was now = same_Some n t (sym now ∙ was)
list_insert_law f xs (Some i) w t n was now =
    let a = chain_some (λ ds. Some (list_data ds)) (each f xs) t was in
    let b = chain_some (λ ds. Some (list_data ds)) (each f (insert xs i w)) n now in
    let e = each-insert-some f xs i w b.0 b.1 in
    let l = list_insert f xs a.0 i w e.0 a.1 e.1 in
    sym (same_Some _ n (sym (ap (λ o. option_and_then (λ ds. Some (list_data ds)) o) l.0) ∙ now)) ∙ l.1 ∙ ap (applied (one [] (insert_item i e.0))) (same_Some _ t a.2)
    ∙ (λ k. applied (with_data (λ x. one [] (insert_item i x)) (sym e.1 k)) t)

pub list_gone_law : {X : Type 0} (f : X → Option Data) (xs : List X) (o : Option ℕ) (t n : Data)
    → option_and_then (λ ds. Some (list_data ds)) (each f xs) ≡ Some t → option_and_then (λ ds. Some (list_data ds)) (each f (at_index (λ i ys. remove ys i) o xs)) ≡ Some n
    → n ≡ applied (at_place (λ i. one [] (remove_item i)) o) t
list_gone_law f xs None t n was now = same_Some n t (sym now ∙ was)
list_gone_law f xs (Some i) t n was now =
    let a = chain_some (λ ds. Some (list_data ds)) (each f xs) t was in
    let l = list_remove f xs a.0 i a.1 in
    sym (same_Some _ n (sym (ap (λ o. option_and_then (λ ds. Some (list_data ds)) o) l.0) ∙ now)) ∙ l.1 ∙ ap (applied (one [] (remove_item i))) (same_Some _ t a.2)
