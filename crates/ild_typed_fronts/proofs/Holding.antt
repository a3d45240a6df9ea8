-- The front of a holder: its parts are fronts; and edits of it.
use Rattle.std.proofs.Common.{◌≡◌, ℕ, zero, suc, cond, List, [], ◌∷◌, ◌++◌, length, map, take, drop, slice_get, insert, Bool, true, false, Option, Some, None, option_map, refl, ap, sym, ◌∙◌}
use Rattle.std.specs.Prelude.{◌||◌, is_some, slice_set, remove, option_and_then}
use Rattle.std.specs.Option.{option_map_or}
use Rattle.std.specs.Ordering.{match_ordering}
use Rattle.std.specs.declared.cmp.Ordering.{Ordering}
use Rattle.std.specs.declared.cmp.Ordering.TheVariants.{Less, Equal, Greater}
use Rattle.std.proofs.lemmas.List.{length-map}
use Rattle.std.proofs.lemmas.Option.{none-some, same_Some, slice_get-map}
use Rattle.ild_data.specs.Data as D
use Rattle.ild_data.specs.Data.{Data}
use Rattle.ild_data.specs.Key.{key_cmp, same_text, value_at, put, without}
use Rattle.ild_schema.specs.declared.def.Field.{Field}
use Rattle.ild_schema.specs.declared.def.Member.{Member}
use Rattle.ild_schema.specs.declared.number.Slot.{Slot}
use Rattle.ild_schema.specs.declared.row.Row.{Row}
use Rattle.ild_schema.specs.Prelude.{anything}
use Rattle.ild_schema.specs.Slots.{form_of, plainly}
use Rattle.ild_schema.specs.Value as V
use Rattle.ild_schema.specs.Value.{Value}
use Rattle.ild_typed.specs.Holder.{Holder, fields, member, entries, elements, any_entries, any_elements, nothing, of_any, data_in}
use Rattle.ild_typed.specs.Segment.{part, set_part, field_at, set_field, held_as, member_named, index_of, at_index, put_last, put_by}
use Rattle.ild_value_meaning.proofs.Members.{member-named}
use Rattle.ild_path_edits.specs.Table.{declared_slot, slot_to_set, if_absent, slot_left_out, new_index, slot_to_insert, key_fits, insert_part, if_present, field_kept, unless_there, never, refusal_to_delete, delete_part}
use Rattle.ild_path_edits.proofs.HeldTyped.{slot_given}
use Rattle.ild_typed_fronts.specs.Front.{is_hamt, root_or_map, front, front_in}

module _ (h : List ℕ → List ℕ) (rows : List Row) where
  abbrev F : Slot → Value → Value
  F s v = front h rows s v

  abbrev pub fronts_of : List Field → List (Option Value) → List (Option Value)
  fronts_of [] os = os
  fronts_of (f ∷ fs) [] = []
  fronts_of (f ∷ fs) (o ∷ os) = option_map (F f.slot) o ∷ fronts_of fs os

  abbrev pub entry_front : Slot → List ℕ × Value → List ℕ × Value
  entry_front s p = (p.0, F s p.1)

  abbrev pub front_of : Holder → Holder
  front_of (fields fs os) = fields fs (fronts_of fs os)
  front_of (member ms n v) = member ms n (option_map_or (λ (m : Member). F (plainly m.ty) v) (slice_get ms n) v)
  front_of (entries key slot paired ps) = entries key slot paired (map (entry_front slot) ps)
  front_of (elements slot vs) = elements slot (map (F slot) vs)
  front_of (any_entries ms) = any_entries ms
  front_of (any_elements ds) = any_elements ds
  front_of (nothing v) = nothing v

  -- data inside an Any are their own front, and a front has no others
  inside : (d : Data) → F anything (of_any d) ≡ of_any d
  inside D.null = refl
  inside (D.boolean b) = refl
  inside (D.integer n) = refl
  inside (D.text s) = refl
  inside (D.bytes s) = refl
  inside (D.list ds) = refl
  inside (D.map ms) = refl
  inside (D.link s) = refl

  none_inside : (b : Bool) (o : Option Data) (ps : V.Pairs) → data_in (root_or_map b o ps) ≡ D.null
  none_inside true None ps = refl
  none_inside true (Some t) ps = refl
  none_inside false o ps = refl

  same_inside : (s : Slot) (w : Value) → data_in (F s w) ≡ data_in w
  same_inside s V.null = refl
  same_inside s (V.boolean b) = refl
  same_inside s (V.integer n) = refl
  same_inside s (V.text t) = refl
  same_inside s (V.bytes t) = refl
  same_inside s (V.link t) = refl
  same_inside s (V.list vs) = refl
  same_inside s (V.map ps) = none_inside (is_hamt (form_of rows s)) _ _
  same_inside s (V.struct os) = refl
  same_inside s (V.union n v) = refl
  same_inside s (V.enum n) = refl
  same_inside s V.unit = refl
  same_inside s (V.any d) = refl
  same_inside s (V.hamt d) = refl

  -- ---- parts

  inside_part : (o : Option Data) → option_map (λ d. (anything, of_any d)) o ≡ option_map (front_in h rows) (option_map (λ d. (anything, of_any d)) o)
  inside_part None = refl
  inside_part (Some d) = ap (λ v. Some (anything, v)) (sym (inside d))

  slot_part : (slot : Slot) (o : Option Value) → option_map (λ v. (slot, v)) (option_map (F slot) o) ≡ option_map (front_in h rows) (option_map (λ v. (slot, v)) o)
  slot_part slot None = refl
  slot_part slot (Some v) = refl

  entry_at : (slot : Slot) (k : List ℕ) (ps : List (List ℕ × Value)) → value_at k (map (entry_front slot) ps) ≡ option_map (F slot) (value_at k ps)
  entry_at slot k [] = refl
  entry_at slot k (p ∷ ps) = by (same_text k p.0) (entry_at slot k ps) where
    by : (b : Bool) → value_at k (map (entry_front slot) ps) ≡ option_map (F slot) (value_at k ps)
        → cond b (Some (F slot p.1)) (value_at k (map (entry_front slot) ps)) ≡ option_map (F slot) (cond b (Some p.1) (value_at k ps))
    by true rest = refl
    by false rest = rest

  element_at : (slot : Slot) (o : Option ℕ) (vs : List Value) → option_and_then (λ i. slice_get (map (F slot) vs) i) o ≡ option_map (F slot) (option_and_then (λ i. slice_get vs i) o)
  element_at slot None vs = refl
  element_at slot (Some i) vs = slice_get-map (F slot) vs i

  field_part : (s : List ℕ) (fs : List Field) (os : List (Option Value)) → field_at s fs (fronts_of fs os) ≡ option_map (front_in h rows) (field_at s fs os)
  field_part s [] os = refl
  field_part s (f ∷ fs) [] = refl
  field_part s (f ∷ fs) (o ∷ os) = by (same_text s f.name) o (field_part s fs os) where
    by : (b : Bool) (o : Option Value) → field_at s fs (fronts_of fs os) ≡ option_map (front_in h rows) (field_at s fs os)
        → cond b (option_map (λ v. (f.slot, v)) (option_map (F f.slot) o)) (field_at s fs (fronts_of fs os)) ≡ option_map (front_in h rows) (cond b (option_map (λ v. (f.slot, v)) o) (field_at s fs os))
    by true o rest = slot_part f.slot o
    by false o rest = rest

  member_part : (s : List ℕ) (v : Value) (o : Option Member) → held_as s (option_map_or (λ (m : Member). F (plainly m.ty) v) o v) o ≡ option_map (front_in h rows) (held_as s v o)
  member_part s v None = refl
  member_part s v (Some m) = by (same_text s m.name) where
    by : (b : Bool) → cond b (Some (plainly m.ty, F (plainly m.ty) v)) None ≡ option_map (front_in h rows) (cond b (Some (plainly m.ty, v)) None)
    by true = refl
    by false = refl

  pub part_front : (k : Holder) (s : List ℕ) → part (front_of k) s ≡ option_map (front_in h rows) (part k s)
  part_front (fields fs os) s = field_part s fs os
  part_front (member ms n v) s = member_part s v (slice_get ms n)
  part_front (entries key slot paired ps) s = ap (option_map (λ v. (slot, v))) (entry_at slot s ps) ∙ slot_part slot (value_at s ps)
  part_front (elements slot vs) s = ap (option_map (λ v. (slot, v))) (element_at slot (index_of s) vs) ∙ slot_part slot (option_and_then (λ i. slice_get vs i) (index_of s))
  part_front (any_entries ms) s = inside_part (value_at s ms)
  part_front (any_elements ds) s = inside_part (option_and_then (λ i. slice_get ds i) (index_of s))
  part_front (nothing v) s = refl

  -- ---- what may be done

  same_some : {X Y : Type 0} (f : X → Y) (o : Option X) → is_some (option_map f o) ≡ is_some o
  same_some f None = refl
  same_some f (Some x) = refl

  declared : (s : List ℕ) (fs : List Field) (os : List (Option Value)) → declared_slot s fs (fronts_of fs os) ≡ declared_slot s fs os
  declared s [] os = refl
  declared s (f ∷ fs) [] = refl
  declared s (f ∷ fs) (o ∷ os) = ap (cond (same_text s f.name) (Some f.slot)) (declared s fs os)

  still_mapped : {X Y : Type 0} (f : X → X) (g : Y) (o : Option X) → option_map (λ x. g) (option_map f o) ≡ option_map (λ x. g) o
  still_mapped f g None = refl
  still_mapped f g (Some x) = refl

  pub set_alike : (k : Holder) (s : List ℕ) → slot_to_set (front_of k) s ≡ slot_to_set k s
  set_alike (fields fs os) s = declared s fs os
  set_alike (member ms n v) s = refl
  set_alike (entries key slot paired ps) s = refl
  set_alike (elements slot vs) s = ap (option_map (λ v. slot)) (element_at slot (index_of s) vs) ∙ still_mapped (F slot) slot (option_and_then (λ i. slice_get vs i) (index_of s))
  set_alike (any_entries ms) s = refl
  set_alike (any_elements ds) s = refl
  set_alike (nothing v) s = refl

  absent_alike : (slot : Slot) (optional : Bool) (f : Value → Value) (o : Option Value) → if_absent slot optional (option_map f o) ≡ if_absent slot optional o
  absent_alike slot optional f None = refl
  absent_alike slot optional f (Some v) = refl

  left_out_alike : (s : List ℕ) (fs : List Field) (os : List (Option Value)) → slot_left_out s fs (fronts_of fs os) ≡ slot_left_out s fs os
  left_out_alike s [] os = refl
  left_out_alike s (f ∷ fs) [] = refl
  left_out_alike s (f ∷ fs) (o ∷ os) = λ i. cond (same_text s f.name) (absent_alike f.slot f.optional (F f.slot) o i) (left_out_alike s fs os i)

  there_alike : (slot : Slot) (s : List ℕ) (ps : List (List ℕ × Value)) → is_some (value_at s (map (entry_front slot) ps)) ≡ is_some (value_at s ps)
  there_alike slot s ps = ap is_some (entry_at slot s ps) ∙ same_some (F slot) (value_at s ps)

  pub insert_alike : (k : Holder) (s : List ℕ) → slot_to_insert (front_of k) s ≡ slot_to_insert k s
  insert_alike (fields fs os) s = left_out_alike s fs os
  insert_alike (member ms n v) s = refl
  insert_alike (entries key slot paired ps) s = ap (λ b. cond b None (Some slot)) (there_alike slot s ps)
  insert_alike (elements slot vs) s = ap (λ n. option_map (λ i. slot) (new_index n s)) (length-map vs (F slot))
  insert_alike (any_entries ms) s = refl
  insert_alike (any_elements ds) s = refl
  insert_alike (nothing v) s = refl

  pub key_alike : (is_key : ℕ → List ℕ → Bool) (k : Holder) (s : List ℕ) → key_fits is_key (front_of k) s ≡ key_fits is_key k s
  key_alike is_key (fields fs os) s = refl
  key_alike is_key (member ms n v) s = refl
  key_alike is_key (entries key slot paired ps) s = ap (λ b. b || is_key key s) (there_alike slot s ps)
  key_alike is_key (elements slot vs) s = refl
  key_alike is_key (any_entries ms) s = refl
  key_alike is_key (any_elements ds) s = refl
  key_alike is_key (nothing v) s = refl

  present_alike : (optional : Bool) (f : Value → Value) (o : Option Value) → if_present optional (option_map f o) ≡ if_present optional o
  present_alike optional f None = refl
  present_alike optional f (Some v) = refl

  kept_alike : (s : List ℕ) (fs : List Field) (os : List (Option Value)) → field_kept s fs (fronts_of fs os) ≡ field_kept s fs os
  kept_alike s [] os = refl
  kept_alike s (f ∷ fs) [] = refl
  kept_alike s (f ∷ fs) (o ∷ os) = λ i. cond (same_text s f.name) (present_alike f.optional (F f.slot) o i) (kept_alike s fs os i)

  never_alike : {X : Type 0} (f : X → X) (o : Option X) → never (option_map f o) ≡ never o
  never_alike f None = refl
  never_alike f (Some x) = refl

  unless_alike : {X : Type 0} (f : X → X) (o : Option X) → unless_there (option_map f o) ≡ unless_there o
  unless_alike f None = refl
  unless_alike f (Some x) = refl

  pub delete_alike : (k : Holder) (s : List ℕ) → refusal_to_delete (front_of k) s ≡ refusal_to_delete k s
  delete_alike (fields fs os) s = kept_alike s fs os
  delete_alike (member ms n v) s = ap never (member_part s v (slice_get ms n)) ∙ never_alike (front_in h rows) (held_as s v (slice_get ms n))
  delete_alike (entries key slot paired ps) s = ap unless_there (entry_at slot s ps) ∙ unless_alike (F slot) (value_at s ps)
  delete_alike (elements slot vs) s = ap unless_there (element_at slot (index_of s) vs) ∙ unless_alike (F slot) (option_and_then (λ i. slice_get vs i) (index_of s))
  delete_alike (any_entries ms) s = refl
  delete_alike (any_elements ds) s = refl
  delete_alike (nothing v) s = refl

  -- ---- what becomes of it

  last_put : (slot : Slot) (k : List ℕ) (w : Value) (ps : List (List ℕ × Value)) → put_last k (F slot w) (map (entry_front slot) ps) ≡ map (entry_front slot) (put_last k w ps)
  last_put slot k w [] = refl
  last_put slot k w (p ∷ ps) = by (same_text k p.0) (last_put slot k w ps) where
    by : (b : Bool) → put_last k (F slot w) (map (entry_front slot) ps) ≡ map (entry_front slot) (put_last k w ps)
        → cond b ((k, F slot w) ∷ map (entry_front slot) ps) (entry_front slot p ∷ put_last k (F slot w) (map (entry_front slot) ps)) ≡ map (entry_front slot) (cond b ((k, w) ∷ ps) (p ∷ put_last k w ps))
    by true rest = refl
    by false rest = ap (λ qs. entry_front slot p ∷ qs) rest

  key_put : (slot : Slot) (k : List ℕ) (w : Value) (ps : List (List ℕ × Value)) → put k (F slot w) (map (entry_front slot) ps) ≡ map (entry_front slot) (put k w ps)
  key_put slot k w [] = refl
  key_put slot k w (p ∷ ps) = by (key_cmp k p.0) (key_put slot k w ps) where
    by : (o : Ordering) → put k (F slot w) (map (entry_front slot) ps) ≡ map (entry_front slot) (put k w ps)
        → match_ordering o ((k, F slot w) ∷ map (entry_front slot) (p ∷ ps)) ((k, F slot w) ∷ map (entry_front slot) ps) (entry_front slot p ∷ put k (F slot w) (map (entry_front slot) ps))
        ≡ map (entry_front slot) (match_ordering o ((k, w) ∷ p ∷ ps) ((k, w) ∷ ps) (p ∷ put k w ps))
    by Less rest = refl
    by Equal rest = refl
    by Greater rest = ap (λ qs. entry_front slot p ∷ qs) rest

  entry_put : (paired : Bool) (slot : Slot) (k : List ℕ) (w : Value) (ps : List (List ℕ × Value)) → put_by paired k (F slot w) (map (entry_front slot) ps) ≡ map (entry_front slot) (put_by paired k w ps)
  entry_put true slot k w ps = last_put slot k w ps
  entry_put false slot k w ps = key_put slot k w ps

  entry_gone : (slot : Slot) (k : List ℕ) (ps : List (List ℕ × Value)) → without k (map (entry_front slot) ps) ≡ map (entry_front slot) (without k ps)
  entry_gone slot k [] = refl
  entry_gone slot k (p ∷ ps) = by (same_text k p.0) (entry_gone slot k ps) where
    by : (b : Bool) → without k (map (entry_front slot) ps) ≡ map (entry_front slot) (without k ps)
        → cond b (map (entry_front slot) ps) (entry_front slot p ∷ without k (map (entry_front slot) ps)) ≡ map (entry_front slot) (cond b ps (p ∷ without k ps))
    by true rest = refl
    by false rest = ap (λ qs. entry_front slot p ∷ qs) rest

  field_set : (s : List ℕ) (u : Slot) (w : Value) (fs : List Field) (os : List (Option Value)) → declared_slot s fs os ≡ Some u
      → set_field s (Some (F u w)) fs (fronts_of fs os) ≡ fronts_of fs (set_field s (Some w) fs os)
  field_set s u w [] os e = refl
  field_set s u w (f ∷ fs) [] e = refl
  field_set s u w (f ∷ fs) (o ∷ os) e = by (same_text s f.name) e (λ g. field_set s u w fs os g) where
    by : (b : Bool) → cond b (Some f.slot) (declared_slot s fs os) ≡ Some u → (declared_slot s fs os ≡ Some u → set_field s (Some (F u w)) fs (fronts_of fs os) ≡ fronts_of fs (set_field s (Some w) fs os))
        → cond b (Some (F u w) ∷ fronts_of fs os) (option_map (F f.slot) o ∷ set_field s (Some (F u w)) fs (fronts_of fs os)) ≡ fronts_of (f ∷ fs) (cond b (Some w ∷ os) (o ∷ set_field s (Some w) fs os))
    by true g rest = ap (λ r. Some (F r w) ∷ fronts_of fs os) (sym (same_Some f.slot u g))
    by false g rest = ap (λ os. option_map (F f.slot) o ∷ os) (rest g)

  field_gone : (s : List ℕ) (fs : List Field) (os : List (Option Value)) → set_field s None fs (fronts_of fs os) ≡ fronts_of fs (set_field s None fs os)
  field_gone s [] os = refl
  field_gone s (f ∷ fs) [] = refl
  field_gone s (f ∷ fs) (o ∷ os) = by (same_text s f.name) (field_gone s fs os) where
    by : (b : Bool) → set_field s None fs (fronts_of fs os) ≡ fronts_of fs (set_field s None fs os)
        → cond b (None ∷ fronts_of fs os) (option_map (F f.slot) o ∷ set_field s None fs (fronts_of fs os)) ≡ fronts_of (f ∷ fs) (cond b (None ∷ os) (o ∷ set_field s None fs os))
    by true rest = refl
    by false rest = ap (λ os. option_map (F f.slot) o ∷ os) rest

  map_set : {X Y : Type 0} (f : X → Y) (xs : List X) (i : ℕ) (x : X) → slice_set (map f xs) i (f x) ≡ map f (slice_set xs i x)
  map_set f [] i x = refl
  map_set f (y ∷ ys) zero x = refl
  map_set f (y ∷ ys) (suc i) x = ap (λ zs. f y ∷ zs) (map_set f ys i x)

  map_join : {X Y : Type 0} (f : X → Y) (xs ys : List X) → map f (xs ++ ys) ≡ map f xs ++ map f ys
  map_join f [] ys = refl
  map_join f (x ∷ xs) ys = ap (λ zs. f x ∷ zs) (map_join f xs ys)

  map_take : {X Y : Type 0} (f : X → Y) (i : ℕ) (xs : List X) → map f (take i xs) ≡ take i (map f xs)
  map_take f zero xs = refl
  map_take f (suc i) [] = refl
  map_take f (suc i) (x ∷ xs) = ap (λ zs. f x ∷ zs) (map_take f i xs)

  map_drop : {X Y : Type 0} (f : X → Y) (i : ℕ) (xs : List X) → map f (drop i xs) ≡ drop i (map f xs)
  map_drop f zero xs = refl
  map_drop f (suc i) [] = refl
  map_drop f (suc i) (x ∷ xs) = map_drop f i xs

  map_insert : {X Y : Type 0} (f : X → Y) (xs : List X) (i : ℕ) (x : X) → insert (map f xs) i (f x) ≡ map f (insert xs i x)
  map_insert f xs i x = sym (map_join f (take i xs) (x ∷ drop i xs) ∙ (λ j. map_take f i xs j ++ (f x ∷ map_drop f i xs j)))

  map_remove : {X Y : Type 0} (f : X → Y) (xs : List X) (i : ℕ) → remove (map f xs) i ≡ map f (remove xs i)
  map_remove f xs i = sym (map_join f (take i xs) (drop (suc i) xs) ∙ (λ j. map_take f i xs j ++ map_drop f (suc i) xs j))

  at_place : {X Y : Type 0} (f : X → Y) (g : ℕ → List X → List X) (k : ℕ → List Y → List Y) (o : Option ℕ) (xs : List X) → ((i : ℕ) → k i (map f xs) ≡ map f (g i xs)) → at_index k o (map f xs) ≡ map f (at_index g o xs)
  at_place f g k None xs same = refl
  at_place f g k (Some i) xs same = same i

  member_set : (ms : List Member) (n : ℕ) (v v' w : Value) (s : List ℕ) (u : Slot) (o : Option (ℕ × Member)) → member_named s ms ≡ o → option_map (λ (p : ℕ × Member). plainly (p.1).ty) o ≡ Some u
      → option_map_or (λ (p : ℕ × Member). member ms p.0 (F u w)) o (member ms n v') ≡ front_of (option_map_or (λ (p : ℕ × Member). member ms p.0 w) o (member ms n v))
  member_set ms n v v' w s u None e g = absurd (none-some u g)
  member_set ms n v v' w s u (Some p) e g =
      let m = member-named s ms p e in
      ap (λ r. member ms p.0 (F r w)) (sym (same_Some (plainly (p.1).ty) u g)) ∙ ap (λ o. member ms p.0 (option_map_or (λ (m : Member). F (plainly m.ty) w) o w)) (sym m.placed)

  pub set_front : (k : Holder) (s : List ℕ) (u : Slot) (w : Value) → slot_to_set k s ≡ Some u → set_part (front_of k) s (F u w) ≡ front_of (set_part k s w)
  set_front (fields fs os) s u w e = ap (fields fs) (field_set s u w fs os e)
  set_front (member ms n v) s u w e = member_set ms n v _ w s u (member_named s ms) refl e
  set_front (entries key slot paired ps) s u w e =
      ap (λ r. entries key slot paired (put_by paired s (F r w) (map (entry_front slot) ps))) (sym (same_Some slot u e)) ∙ ap (entries key slot paired) (entry_put paired slot s w ps)
  set_front (elements slot vs) s u w e =
      ap (λ r. elements slot (at_index (λ i xs. slice_set xs i (F r w)) (index_of s) (map (F slot) vs))) (sym (slot_given slot (option_and_then (λ i. slice_get vs i) (index_of s)) u e))
      ∙ ap (elements slot) (at_place (F slot) (λ i xs. slice_set xs i w) (λ i xs. slice_set xs i (F slot w)) (index_of s) vs (λ i. map_set (F slot) vs i w))
  set_front (any_entries ms) s u w e = ap (λ d. any_entries (put s d ms)) (same_inside u w)
  set_front (any_elements ds) s u w e = ap (λ d. any_elements (at_index (λ i xs. slice_set xs i d) (index_of s) ds)) (same_inside u w)
  set_front (nothing v) s u w e = refl

  pub to_declared : (s : List ℕ) (fs : List Field) (os : List (Option Value)) (u : Slot) → slot_left_out s fs os ≡ Some u → declared_slot s fs os ≡ Some u
  to_declared s [] os u e = absurd (none-some u e)
  to_declared s (f ∷ fs) [] u e = absurd (none-some u e)
  to_declared s (f ∷ fs) (o ∷ os) u e = by (same_text s f.name) o f.optional e (λ g. to_declared s fs os u g) where
    by : (b : Bool) (o : Option Value) (c : Bool) → cond b (if_absent f.slot c o) (slot_left_out s fs os) ≡ Some u → (slot_left_out s fs os ≡ Some u → declared_slot s fs os ≡ Some u) → cond b (Some f.slot) (declared_slot s fs os) ≡ Some u
    by true None true g rest = g
    by true None false g rest = absurd (none-some u g)
    by true (Some v) c g rest = absurd (none-some u g)
    by false o c g rest = rest g

  pub unless_some : (b : Bool) (slot u : Slot) → cond b None (Some slot) ≡ Some u → slot ≡ u
  unless_some true slot u e = absurd (none-some u e)
  unless_some false slot u e = same_Some slot u e

  pub insert_front : (k : Holder) (s : List ℕ) (u : Slot) (w : Value) → slot_to_insert k s ≡ Some u → insert_part (front_of k) s (F u w) ≡ front_of (insert_part k s w)
  insert_front (fields fs os) s u w e = ap (fields fs) (field_set s u w fs os (to_declared s fs os u e))
  insert_front (member ms n v) s u w e = absurd (none-some u e)
  insert_front (entries key slot paired ps) s u w e =
      ap (λ r. entries key slot paired (put_by paired s (F r w) (map (entry_front slot) ps))) (sym (unless_some (is_some (value_at s ps)) slot u e)) ∙ ap (entries key slot paired) (entry_put paired slot s w ps)
  insert_front (elements slot vs) s u w e =
      ap (λ r. elements slot (at_index (λ i xs. insert xs i (F r w)) (new_index (length (map (F slot) vs)) s) (map (F slot) vs))) (sym (slot_given slot (new_index (length vs) s) u e))
      ∙ ap (λ n. elements slot (at_index (λ i xs. insert xs i (F slot w)) (new_index n s) (map (F slot) vs))) (length-map vs (F slot))
      ∙ ap (elements slot) (at_place (F slot) (λ i xs. insert xs i w) (λ i xs. insert xs i (F slot w)) (new_index (length vs) s) vs (λ i. map_insert (F slot) vs i w))
  insert_front (any_entries ms) s u w e = ap (λ d. any_entries (put s d ms)) (same_inside u w)
  insert_front (any_elements ds) s u w e = ap (λ d. any_elements (at_index (λ i xs. insert xs i d) (new_index (length ds) s) ds)) (same_inside u w)
  insert_front (nothing v) s u w e = refl

  pub delete_front : (k : Holder) (s : List ℕ) → delete_part (front_of k) s ≡ front_of (delete_part k s)
  delete_front (fields fs os) s = ap (fields fs) (field_gone s fs os)
  delete_front (member ms n v) s = refl
  delete_front (entries key slot paired ps) s = ap (entries key slot paired) (entry_gone slot s ps)
  delete_front (elements slot vs) s = ap (elements slot) (at_place (F slot) (λ i xs. remove xs i) (λ i xs. remove xs i) (index_of s) vs (λ i. map_remove (F slot) vs i))
  delete_front (any_entries ms) s = refl
  delete_front (any_elements ds) s = refl
  delete_front (nothing v) s = refl
