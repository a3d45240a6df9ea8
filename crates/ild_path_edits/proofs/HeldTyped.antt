-- The table of edits keeps values of their types: holder by holder.
use Rattle.std.proofs.Common.{cond, ◌≡◌, ℕ, List, [], ◌∷◌, length, slice_get, Bool, true, false, ◌||◌, Option, Some, None, refl, ap, sym, subst, ◌∙◌}
use Rattle.std.specs.Prelude.{slice_set, insert, remove, is_some, option_map, option_and_then}
use Rattle.std.specs.Option.{option_map_or}
use Rattle.std.specs.Cmp.Lexicographic.{same_text as text_same}
use Rattle.std.proofs.lemmas.Option.{same_Some, none-some}
use Rattle.ild_schema.proofs.Parts.{pairs_list-pairs_of}
use Rattle.ild_data.specs.Data as D
use Rattle.ild_data.specs.Data.{Data}
use Rattle.ild_data.specs.Key.{same_text, value_at, Rises}
use Rattle.ild_data.specs.Tree.{IsTree}
use Rattle.ild_data.proofs.Rising.{rises_put, rises_without}
use Rattle.ild_schema.specs.declared.def.TypeDef.{TypeDef}
use Rattle.ild_schema.specs.declared.def.TypeDef.TheVariants as T
use Rattle.ild_schema.specs.declared.def.MapForm.{MapForm}
use Rattle.ild_schema.specs.declared.def.MapForm.TheVariants as M
use Rattle.ild_schema.specs.declared.def.Field.{Field}
use Rattle.ild_schema.specs.declared.def.Member.{Member}
use Rattle.ild_schema.specs.declared.def.StructDef.{StructDef}
use Rattle.ild_schema.specs.declared.def.UnionDef.{UnionDef}
use Rattle.ild_schema.specs.declared.number.Slot.{Slot}
use Rattle.ild_schema.specs.declared.number.TypeNo.{TypeNo}
use Rattle.ild_schema.specs.declared.row.Row.{Row}
use Rattle.ild_schema.specs.Prelude.{anything}
use Rattle.ild_schema.specs.Slots.{form_of, plainly}
use Rattle.ild_schema.specs.Value.{Value, null, boolean, integer, text, bytes, link, list, map, struct, union, enum, unit, any, hamt}
use Rattle.ild_script.specs.declared.reply.No.{No}
use Rattle.ild_typed.specs.Holder.{Holder, fields, member, entries, elements, any_entries, any_elements, nothing, is_paired, list_holder, map_holder, struct_holder, union_holder, holder_of, value_of, of_any, data_in}
use Rattle.ild_typed.specs.Segment.{part, set_part, set_field, field_at, index_of, member_named, held_as}
use Rattle.ild_typed.specs.At.{InSlot, seen}
use Rattle.ild_value_meaning.specs.Meant.{is_null}
use Rattle.ild_value_meaning.proofs.ByParts.{ByParts, AreInOrder}
use Rattle.ild_value_meaning.proofs.Members.{member-named}
use Rattle.ild_value_meaning.proofs.Told.{AreToldApart}
use Rattle.ild_path_edits.specs.Table.{declared_slot, slot_to_set, MayStand, slot_to_insert, if_absent, slot_left_out, new_index, insert_part, if_present, field_kept, never, refusal_to_delete, delete_part}
use Rattle.ild_path_edits.proofs.Kept.{IsKept}
use Rattle.ild_path_edits.proofs.Typing.{Each, each_got, each_with, each_inserted, each_removed, each_at, each_by, each_put, each_without, each_found, in_order_put, in_order_without, trees_each, each_trees, EntryIsTree, entries_each, entries_rise, each_entries, EntryOfType, values_each, each_values, pairs_each, each_pairs, EachField, fields_each, each_fields}

-- what an option gives
pub with_slot : (slot : Slot) (o : Option Value) (q : Slot × Value) → option_map (λ v. (slot, v)) o ≡ Some q → (v : Value) × (o ≡ Some v) × ((slot, v) ≡ q)
with_slot slot None q h = absurd (none-some q h)
with_slot slot (Some v) q h = (v, refl, same_Some (slot, v) q h)

pub inside_any : (o : Option Data) (q : Slot × Value) → option_map (λ d. (anything, of_any d)) o ≡ Some q → (d : Data) × (o ≡ Some d) × ((anything, of_any d) ≡ q)
inside_any None q h = absurd (none-some q h)
inside_any (Some d) q h = (d, refl, same_Some (anything, of_any d) q h)

pub slot_given : {X : Type 0} (slot : Slot) (o : Option X) (r : Slot) → option_map (λ v. slot) o ≡ Some r → slot ≡ r
slot_given slot None r h = absurd (none-some r h)
slot_given slot (Some x) r h = same_Some slot r h

pub slot_kept : {X : Type 0} (slot : Slot) (f : X → Value) (o : Option X) (q : Slot × Value) → option_map (λ v. (slot, f v)) o ≡ Some q → option_map (λ v. slot) o ≡ Some q.0
slot_kept slot f None q h = absurd (none-some q h)
slot_kept slot f (Some x) q h = ap Some (λ i. (same_Some (slot, f x) q h i).0)

pub some_slot : {X : Type 0} (slot : Slot) (f : X → Value) (o : Option X) (q : Slot × Value) → option_map (λ v. (slot, f v)) o ≡ Some q → slot ≡ q.0
some_slot slot f None q h = absurd (none-some q h)
some_slot slot f (Some v) q h = λ i. (same_Some (slot, f v) q h i).0

pub indexed : {X : Type 0} (xs : List X) (o : Option ℕ) (x : X) → option_and_then (λ i. slice_get xs i) o ≡ Some x → (i : ℕ) × (slice_get xs i ≡ Some x)
indexed xs None x h = absurd (none-some x h)
indexed xs (Some i) x h = (i, h)

pub new_key : (b : Bool) (slot r : Slot) → cond b None (Some slot) ≡ Some r → Some slot ≡ Some r
new_key true slot r e = absurd (none-some r e)
new_key false slot r e = e

-- a value that holds no parts
abbrev pub IsBare : Value → Type 0
IsBare (list vs) = ⊥
IsBare (map ps) = ⊥
IsBare (struct os) = ⊥
IsBare (union n v) = ⊥
IsBare (any (D.list ds)) = ⊥
IsBare (any (D.map ms)) = ⊥
IsBare v = Unit {0}

-- the held member, by its name
held_by : (s : List ℕ) (v : Value) (m : Member) (q : InSlot) (b : Bool) → b ≡ same_text s m.name → cond b (Some (plainly m.ty, v)) None ≡ Some q → (s ≡ m.name) × ((plainly m.ty, v) ≡ q)
held_by s v m q true e h = (text_same s m.name e, same_Some (plainly m.ty, v) q h)
held_by s v m q false e h = absurd (none-some q h)

pub held_is : (s : List ℕ) (v : Value) (o : Option Member) (m : Member) (q : InSlot) → o ≡ Some m → held_as s v o ≡ Some q → (s ≡ m.name) × ((plainly m.ty, v) ≡ q)
held_is s v o m q e h = held_by s v m q (same_text s m.name) refl (sym (ap (λ x. held_as s v x) e) ∙ h)

module _ (rows : List Row) (is_key : ℕ → List ℕ → Bool) (apart : AreToldApart rows) (any_there : form_of rows anything ≡ Some T.Any) where
  abbrev Of : Slot → Value → Type 0
  Of slot v = ByParts rows is_key slot v

  abbrev Are : List Field → List (Option Value) → Type 0
  Are fs os = EachField rows is_key fs os

  -- a holder whose parts are of their types
  abbrev pub IsHeld : Slot → Holder → Type 0
  IsHeld slot (fields fs os) = (s : StructDef) × (form_of rows slot ≡ Some (T.Struct s)) × (fs ≡ s.fields) × Are fs os
  IsHeld slot (member ms n v) = (u : UnionDef) × (m : Member) × (form_of rows slot ≡ Some (T.Union u)) × (ms ≡ u.members) × (slice_get ms n ≡ Some m) × Of (plainly m.ty) v
  IsHeld slot (entries key elem paired ps) =
      (k : TypeNo) × (key_at : ℕ) × (place : ℕ) × (f : MapForm) × (form_of rows slot ≡ Some (T.Map k key_at elem place f)) × (key ≡ k.0) × (paired ≡ is_paired f)
      × Each (EntryOfType rows is_key key elem) ps × AreInOrder paired ps
  IsHeld slot (elements elem vs) = (place : ℕ) × (form_of rows slot ≡ Some (T.List elem place)) × Each (λ v. Of elem v) vs
  IsHeld slot (any_entries ms) = (form_of rows slot ≡ Some T.Any) × Each EntryIsTree ms × Rises ms
  IsHeld slot (any_elements ds) = (form_of rows slot ≡ Some T.Any) × Each IsTree ds
  IsHeld slot (nothing v) = Of slot v × IsBare v

  -- the holder of a typed value
  pub held : (v : Value) (slot : Slot) → Of slot v → IsHeld slot (holder_of rows slot v)
  held null slot h = (h, tt)
  held (boolean b) slot h = (h, tt)
  held (integer n) slot h = (h, tt)
  held (text s) slot h = (h, tt)
  held (bytes s) slot h = (h, tt)
  held (link s) slot h = (h, tt)
  held (list vs) slot h = subst (λ f. IsHeld slot (list_holder f vs)) (sym h.2) (h.1, h.2, values_each rows is_key h.0 vs h.3)
  held (map ps) slot h =
      subst (λ f. IsHeld slot (map_holder f ps)) (sym h.5) (h.0, h.1, h.3, h.4, h.5, refl, refl, pairs_each rows is_key (h.0).0 h.2 ps h.6, h.7)
  held (struct os) slot h = subst (λ f. IsHeld slot (struct_holder f os)) (sym h.1) (h.0, h.1, refl, fields_each rows is_key (h.0).fields os h.2)
  held (union n v) slot h = subst (λ f. IsHeld slot (union_holder f n v)) (sym h.2) (h.0, h.1, h.2, refl, h.3, h.4)
  held (enum n) slot h = (h, tt)
  held unit slot h = (h, tt)
  held (any D.null) slot h = (h, tt)
  held (any (D.boolean b)) slot h = (h, tt)
  held (any (D.integer n)) slot h = (h, tt)
  held (any (D.text s)) slot h = (h, tt)
  held (any (D.bytes s)) slot h = (h, tt)
  held (any (D.list ds)) slot h = (h.0, trees_each ds h.2)
  held (any (D.map ms)) slot h = (h.0, entries_each ms h.2, entries_rise ms h.2)
  held (any (D.link s)) slot h = (h, tt)
  held (hamt d) slot h = (h, tt)

  -- the value of a holder whose parts are typed
  pub unheld : (k : Holder) (slot : Slot) → IsHeld slot k → Of slot (value_of k)
  unheld (fields fs os) slot h = (h.0, h.1, each_fields rows is_key (h.0).fields os (subst (λ gs. Are gs os) h.2 h.3))
  unheld (member ms n v) slot h = (h.0, h.1, h.2, subst (λ ns. slice_get ns n ≡ Some h.1) h.3 h.4, h.5)
  unheld (entries key elem paired ps) slot h = (
    h.0,
    h.1,
    elem,
    h.2,
    h.3,
    h.4,
    each_pairs rows is_key (h.0).0 elem ps (subst (λ k. Each (EntryOfType rows is_key k elem) ps) h.5 h.7),
    subst (λ xs. AreInOrder (is_paired h.3) xs) (sym (pairs_list-pairs_of ps)) (subst (λ b. AreInOrder b ps) h.6 h.8),
  )
  unheld (elements elem vs) slot h = (elem, h.0, h.1, each_values rows is_key elem vs h.2)
  unheld (any_entries ms) slot h = (h.0, refl, each_entries ms h.1 h.2)
  unheld (any_elements ds) slot h = (h.0, refl, each_trees ds h.1)
  unheld (nothing v) slot h = h.0

  -- ---- parts

  field_part_at : (s : List ℕ) (f : Field) (fs : List Field) (o : Option Value) (os : List (Option Value)) (q : InSlot) (b : Bool) → Are (f ∷ fs) (o ∷ os)
      → cond b (option_map (λ v. (f.slot, v)) o) (field_at s fs os) ≡ Some q → (field_at s fs os ≡ Some q → Of q.0 q.1) → Of q.0 q.1
  field_part_at s f fs None os q true h e rest = absurd (none-some q e)
  field_part_at s f fs (Some v) os q true h e rest = subst (λ (r : InSlot). Of r.0 r.1) (same_Some (f.slot, v) q e) h.0
  field_part_at s f fs o os q false h e rest = rest e

  field_part : (s : List ℕ) (fs : List Field) (os : List (Option Value)) (q : InSlot) → Are fs os → field_at s fs os ≡ Some q → Of q.0 q.1
  field_part s [] os q h e = absurd (none-some q e)
  field_part s (f ∷ fs) [] q h e = absurd (none-some q e)
  field_part s (f ∷ fs) (o ∷ os) q h e = field_part_at s f fs o os q (same_text s f.name) h e (λ g. field_part s fs os q h.1 g)

  any_typed : (d : Data) → IsTree d → Of anything (of_any d)
  any_typed D.null t = refl
  any_typed (D.boolean b) t = (any_there, refl, t)
  any_typed (D.integer n) t = (any_there, refl, t)
  any_typed (D.text s) t = (any_there, refl, t)
  any_typed (D.bytes s) t = (any_there, refl, t)
  any_typed (D.list ds) t = (any_there, refl, t)
  any_typed (D.map ms) t = (any_there, refl, t)
  any_typed (D.link s) t = (any_there, refl, t)

  tree_typed : (o : Option Data) (q : InSlot) → ((d : Data) → o ≡ Some d → IsTree d) → option_map (λ d. (anything, of_any d)) o ≡ Some q → Of q.0 q.1
  tree_typed o q t h = let x = inside_any o q h in subst (λ (r : InSlot). Of r.0 r.1) x.2 (any_typed x.0 (t x.0 x.1))

  part_of : (k : Holder) (slot : Slot) (s : List ℕ) (q : InSlot) → IsHeld slot k → part k s ≡ Some q → Of q.0 q.1
  part_of (fields fs os) slot s q h e = field_part s fs os q h.3 e
  part_of (member ms n v) slot s q h e = let x = held_is s v (slice_get ms n) h.1 q h.4 e in subst (λ (r : InSlot). Of r.0 r.1) x.1 h.5
  part_of (entries key elem paired ps) slot s q h e =
      let x = with_slot elem (value_at s ps) q e in
      subst (λ (r : InSlot). Of r.0 r.1) x.2 (each_found (EntryOfType rows is_key key elem) s x.0 ps h.7 x.1).1
  part_of (elements elem vs) slot s q h e =
      let x = with_slot elem (option_and_then (λ i. slice_get vs i) (index_of s)) q e in
      let i = indexed vs (index_of s) x.0 x.1 in
      subst (λ (r : InSlot). Of r.0 r.1) x.2 (each_got (λ v. Of elem v) vs i.0 x.0 h.2 i.1)
  part_of (any_entries ms) slot s q h e = tree_typed (value_at s ms) q (λ d g. (each_found EntryIsTree s d ms h.1 g).1) e
  part_of (any_elements ds) slot s q h e = tree_typed (option_and_then (λ i. slice_get ds i) (index_of s)) q (λ d g. let x = indexed ds (index_of s) d g in each_got IsTree ds x.0 d h.1 x.1) e
  part_of (nothing v) slot s q h e = absurd (none-some q e)

  -- ---- their slots

  field_slot_at : (s : List ℕ) (f : Field) (fs : List Field) (o : Option Value) (os : List (Option Value)) (q : InSlot) (b : Bool)
      → cond b (option_map (λ v. (f.slot, v)) o) (field_at s fs os) ≡ Some q → (field_at s fs os ≡ Some q → declared_slot s fs os ≡ Some q.0) → cond b (Some f.slot) (declared_slot s fs os) ≡ Some q.0
  field_slot_at s f fs o os q true e rest = ap Some (some_slot f.slot (λ v. v) o q e)
  field_slot_at s f fs o os q false e rest = rest e

  field_slot : (s : List ℕ) (fs : List Field) (os : List (Option Value)) (q : InSlot) → field_at s fs os ≡ Some q → declared_slot s fs os ≡ Some q.0
  field_slot s [] os q e = absurd (none-some q e)
  field_slot s (f ∷ fs) [] q e = absurd (none-some q e)
  field_slot s (f ∷ fs) (o ∷ os) q e = field_slot_at s f fs o os q (same_text s f.name) e (λ g. field_slot s fs os q g)

  -- the held member is the first of its name
  pub held_named : (slot : Slot) (ms : List Member) (n : ℕ) (v : Value) (s : List ℕ) (q : InSlot) (h : IsHeld slot (member ms n v)) → held_as s v (slice_get ms n) ≡ Some q
      → (member_named s ms ≡ Some (n, h.1)) × ((plainly (h.1).ty, v) ≡ q)
  held_named slot ms n v s q h e =
      let x = held_is s v (slice_get ms n) h.1 q h.4 e in
      (subst (λ ns. member_named s ns ≡ Some (n, h.1)) (sym h.3) (ap (λ k. member_named k (h.0).members) x.0 ∙ apart.unions slot h.0 n h.1 h.2 (subst (λ ns. slice_get ns n ≡ Some h.1) h.3 h.4)), x.1)

  slot_of : (k : Holder) (slot : Slot) (s : List ℕ) (q : InSlot) → IsHeld slot k → part k s ≡ Some q → slot_to_set k s ≡ Some q.0
  slot_of (fields fs os) slot s q h e = field_slot s fs os q e
  slot_of (member ms n v) slot s q h e =
      let x = held_named slot ms n v s q h e in
      ap (λ o. option_map (λ (p : ℕ × Member). plainly (p.1).ty) o) x.0 ∙ ap Some (λ i. (x.1 i).0)
  slot_of (entries key elem paired ps) slot s q h e = ap Some (some_slot elem (λ v. v) (value_at s ps) q e)
  slot_of (elements elem vs) slot s q h e = slot_kept elem (λ v. v) (option_and_then (λ i. slice_get vs i) (index_of s)) q e
  slot_of (any_entries ms) slot s q h e = ap Some (some_slot anything of_any (value_at s ms) q e)
  slot_of (any_elements ds) slot s q h e = slot_kept anything of_any (option_and_then (λ i. slice_get ds i) (index_of s)) q e
  slot_of (nothing v) slot s q h e = absurd (none-some q e)

  -- ---- what is set

  field_set_at : (s : List ℕ) (w : Value) (f : Field) (fs : List Field) (o : Option Value) (os : List (Option Value)) (slot : Slot) (b : Bool) → Are (f ∷ fs) (o ∷ os)
      → cond b (Some f.slot) (declared_slot s fs os) ≡ Some slot → Of slot w → (declared_slot s fs os ≡ Some slot → Are fs (set_field s (Some w) fs os))
      → Are (f ∷ fs) (cond b (Some w ∷ os) (o ∷ set_field s (Some w) fs os))
  field_set_at s w f fs o os slot true h e new rest = (subst (λ r. Of r w) (sym (same_Some f.slot slot e)) new, h.1)
  field_set_at s w f fs o os slot false h e new rest = (h.0, rest e)

  field_set : (s : List ℕ) (w : Value) (fs : List Field) (os : List (Option Value)) (slot : Slot) → Are fs os → declared_slot s fs os ≡ Some slot → Of slot w → Are fs (set_field s (Some w) fs os)
  field_set s w [] os slot h e new = h
  field_set s w (f ∷ fs) [] slot h e new = h
  field_set s w (f ∷ fs) (o ∷ os) slot h e new = field_set_at s w f fs o os slot (same_text s f.name) h e new (λ g. field_set s w fs os slot h.1 g new)

  tree_in : (v : Value) → Of anything v → IsTree (data_in v)
  tree_in null h = tt
  tree_in (boolean b) h = tt
  tree_in (integer n) h = tt
  tree_in (text s) h = tt
  tree_in (bytes s) h = tt
  tree_in (link s) h = tt
  tree_in (list vs) h = tt
  tree_in (map ps) h = tt
  tree_in (struct os) h = tt
  tree_in (union n v) h = tt
  tree_in (enum n) h = tt
  tree_in unit h = tt
  tree_in (any d) h = h.2
  tree_in (hamt d) h = tt

  new_tree : (r : Slot) (w : Value) → anything ≡ r → Of r w → IsTree (data_in w)
  new_tree r w e h = tree_in w (subst (λ s. Of s w) (sym e) h)

  key_of_type : (key : ℕ) (elem : Slot) (s : List ℕ) (ps : List (List ℕ × Value)) (o : Option Value) → value_at s ps ≡ o → Each (EntryOfType rows is_key key elem) ps → (is_some o || is_key key s) ≡ true → is_key key s ≡ true
  key_of_type key elem s ps None e all h = h
  key_of_type key elem s ps (Some v) e all h = (each_found (EntryOfType rows is_key key elem) s v ps all e).0

  member_set : (slot : Slot) (ms : List Member) (n : ℕ) (v w : Value) (s : List ℕ) (r : Slot) (o : Option (ℕ × Member)) → member_named s ms ≡ o → IsHeld slot (member ms n v)
      → option_map (λ (p : ℕ × Member). plainly (p.1).ty) o ≡ Some r → Of r w → IsHeld slot (option_map_or (λ (p : ℕ × Member). member ms p.0 w) o (member ms n v))
  member_set slot ms n v w s r None e h g new = absurd (none-some r g)
  member_set slot ms n v w s r (Some p) e h g new =
      let m = member-named s ms p e in
      (h.0, p.1, h.2, h.3, m.placed, subst (λ x. Of x w) (sym (same_Some (plainly (p.1).ty) r g)) new)

  set_of : (k : Holder) (slot : Slot) (s : List ℕ) (r : Slot) (w : Value) → IsHeld slot k → slot_to_set k s ≡ Some r → MayStand is_key k s → Of r w → IsHeld slot (set_part k s w)
  set_of (fields fs os) slot s r w h e fits new = (h.0, h.1, h.2, field_set s w fs os r h.3 e new)
  set_of (member ms n v) slot s r w h e fits new = member_set slot ms n v w s r (member_named s ms) refl h e new
  set_of (entries key elem paired ps) slot s r w h e fits new =
      let k = key_of_type key elem s ps (value_at s ps) refl h.7 fits in
      let t : Of elem w = subst (λ y. Of y w) (sym (same_Some elem r e)) new in
      (h.0, h.1, h.2, h.3, h.4, h.5, h.6, each_by (EntryOfType rows is_key key elem) paired s w ps h.7 (k, t), in_order_put paired s w ps h.8)
  set_of (elements elem vs) slot s r w h e fits new =
      let x = slot_given elem (option_and_then (λ i. slice_get vs i) (index_of s)) r e in
      (h.0, h.1, each_at (λ v. Of elem v) (λ i xs. slice_set xs i w) (index_of s) vs h.2 (λ i. each_with (λ v. Of elem v) vs i w h.2 (subst (λ y. Of y w) (sym x) new)))
  set_of (any_entries ms) slot s r w h e fits new =
      (h.0, each_put EntryIsTree s (data_in w) ms h.1 (fits, new_tree r w (same_Some anything r e) new), rises_put s (data_in w) ms h.2)
  set_of (any_elements ds) slot s r w h e fits new =
      let d = new_tree r w (slot_given anything (option_and_then (λ i. slice_get ds i) (index_of s)) r e) new in
      (h.0, each_at IsTree (λ i xs. slice_set xs i (data_in w)) (index_of s) ds h.1 (λ i. each_with IsTree ds i (data_in w) h.1 d))
  set_of (nothing v) slot s r w h e fits new = h

  -- ---- what is inserted

  optional_slot : (slot : Slot) (b : Bool) (r : Slot) → cond b (Some slot) None ≡ Some r → slot ≡ r
  optional_slot slot true r e = same_Some slot r e
  optional_slot slot false r e = absurd (none-some r e)

  absent_slot : (slot : Slot) (b : Bool) (o : Option Value) (r : Slot) → if_absent slot b o ≡ Some r → slot ≡ r
  absent_slot slot b None r e = optional_slot slot b r e
  absent_slot slot b (Some v) r e = absurd (none-some r e)

  left_out_at : (s : List ℕ) (f : Field) (fs : List Field) (o : Option Value) (os : List (Option Value)) (r : Slot) (b : Bool)
      → cond b (if_absent f.slot f.optional o) (slot_left_out s fs os) ≡ Some r → (slot_left_out s fs os ≡ Some r → declared_slot s fs os ≡ Some r) → cond b (Some f.slot) (declared_slot s fs os) ≡ Some r
  left_out_at s f fs o os r true e rest = ap Some (absent_slot f.slot f.optional o r e)
  left_out_at s f fs o os r false e rest = rest e

  pub left_out : (s : List ℕ) (fs : List Field) (os : List (Option Value)) (r : Slot) → slot_left_out s fs os ≡ Some r → declared_slot s fs os ≡ Some r
  left_out s [] os r e = absurd (none-some r e)
  left_out s (f ∷ fs) [] r e = absurd (none-some r e)
  left_out s (f ∷ fs) (o ∷ os) r e = left_out_at s f fs o os r (same_text s f.name) e (λ g. left_out s fs os r g)

  inserted_of : (k : Holder) (slot : Slot) (s : List ℕ) (r : Slot) (w : Value) → IsHeld slot k → slot_to_insert k s ≡ Some r → MayStand is_key k s → Of r w → IsHeld slot (insert_part k s w)
  inserted_of (fields fs os) slot s r w h e fits new = set_of (fields fs os) slot s r w h (left_out s fs os r e) fits new
  inserted_of (member ms n v) slot s r w h e fits new = absurd (none-some r e)
  inserted_of (entries key elem paired ps) slot s r w h e fits new = set_of (entries key elem paired ps) slot s r w h (new_key (is_some (value_at s ps)) elem r e) fits new
  inserted_of (elements elem vs) slot s r w h e fits new =
      let n = new_index (length vs) s in
      let x = slot_given elem n r e in
      (h.0, h.1, each_at (λ v. Of elem v) (λ i xs. insert xs i w) n vs h.2 (λ i. each_inserted (λ v. Of elem v) vs i w h.2 (subst (λ y. Of y w) (sym x) new)))
  inserted_of (any_entries ms) slot s r w h e fits new = set_of (any_entries ms) slot s r w h (new_key (is_some (value_at s ms)) anything r e) fits new
  inserted_of (any_elements ds) slot s r w h e fits new =
      let n = new_index (length ds) s in
      let d = new_tree r w (slot_given anything n r e) new in
      (h.0, each_at IsTree (λ i xs. insert xs i (data_in w)) n ds h.1 (λ i. each_inserted IsTree ds i (data_in w) h.1 d))
  inserted_of (nothing v) slot s r w h e fits new = h

  -- ---- what is left where a part is deleted

  optional_gone : (b : Bool) (x : No) → cond b None (Some x) ≡ None → b ≡ true
  optional_gone true x e = refl
  optional_gone false x e = absurd (none-some x (sym e))

  present_gone : (b : Bool) (o : Option Value) → if_present b o ≡ None → b ≡ true
  present_gone b None e = absurd (none-some _ (sym e))
  present_gone b (Some v) e = optional_gone b _ e

  field_gone_at : (s : List ℕ) (f : Field) (fs : List Field) (o : Option Value) (os : List (Option Value)) (b : Bool) → Are (f ∷ fs) (o ∷ os) → cond b (if_present f.optional o) (field_kept s fs os) ≡ None
      → (field_kept s fs os ≡ None → Are fs (set_field s None fs os)) → Are (f ∷ fs) (cond b (None ∷ os) (o ∷ set_field s None fs os))
  field_gone_at s f fs o os true h e rest = (present_gone f.optional o e, h.1)
  field_gone_at s f fs o os false h e rest = (h.0, rest e)

  field_gone : (s : List ℕ) (fs : List Field) (os : List (Option Value)) → Are fs os → field_kept s fs os ≡ None → Are fs (set_field s None fs os)
  field_gone s [] os h e = h
  field_gone s (f ∷ fs) [] h e = h
  field_gone s (f ∷ fs) (o ∷ os) h e = field_gone_at s f fs o os (same_text s f.name) h e (λ g. field_gone s fs os h.1 g)

  never_free : {X : Type 0} (o : Option X) → never o ≡ None → ⊥
  never_free None e = none-some _ (sym e)
  never_free (Some x) e = none-some _ (sym e)

  deleted_of : (k : Holder) (slot : Slot) (s : List ℕ) → IsHeld slot k → refusal_to_delete k s ≡ None → IsHeld slot (delete_part k s)
  deleted_of (fields fs os) slot s h e = (h.0, h.1, h.2, field_gone s fs os h.3 e)
  deleted_of (member ms n v) slot s h e = absurd (never_free (held_as s v (slice_get ms n)) e)
  deleted_of (entries key elem paired ps) slot s h e =
      (h.0, h.1, h.2, h.3, h.4, h.5, h.6, each_without (EntryOfType rows is_key key elem) s ps h.7, in_order_without paired s ps h.8)
  deleted_of (elements elem vs) slot s h e = (h.0, h.1, each_at (λ v. Of elem v) (λ i xs. remove xs i) (index_of s) vs h.2 (λ i. each_removed (λ v. Of elem v) vs i h.2))
  deleted_of (any_entries ms) slot s h e = (h.0, each_without EntryIsTree s ms h.1, rises_without s ms h.2)
  deleted_of (any_elements ds) slot s h e = (h.0, each_at IsTree (λ i xs. remove xs i) (index_of s) ds h.1 (λ i. each_removed IsTree ds i h.1))
  deleted_of (nothing v) slot s h e = h

  -- ---- in the slot of what stands inside an Any, there is null or such data

  other_form : (d : TypeDef) → form_of rows anything ≡ Some d → d ≡ T.Any
  other_form d e = same_Some d T.Any (sym e ∙ any_there)

  of_any_data : (d : Data) → is_null d ≡ false → of_any d ≡ any d
  of_any_data D.null h = absurd cc
  of_any_data (D.boolean b) h = refl
  of_any_data (D.integer n) h = refl
  of_any_data (D.text s) h = refl
  of_any_data (D.bytes s) h = refl
  of_any_data (D.list ds) h = refl
  of_any_data (D.map ms) h = refl
  of_any_data (D.link s) h = refl

  pub inside_of_type : (v : Value) → Of anything v → of_any (data_in v) ≡ v
  inside_of_type null h = refl
  inside_of_type (boolean b) h = let e = other_form T.Bool h in absurd cc
  inside_of_type (integer n) h = let e = other_form T.Int h.0 in absurd cc
  inside_of_type (text s) h = let e = other_form T.Text h.0 in absurd cc
  inside_of_type (bytes s) h = let e = other_form T.Bytes h.0 in absurd cc
  inside_of_type (link s) h = let e = other_form (T.Link h.0) h.1 in absurd cc
  inside_of_type (list vs) h = let e = other_form (T.List h.0 h.1) h.2 in absurd cc
  inside_of_type (map ps) h = let e = other_form (T.Map h.0 h.1 h.2 h.3 h.4) h.5 in absurd cc
  inside_of_type (struct os) h = let e = other_form (T.Struct h.0) h.1 in absurd cc
  inside_of_type (union n v) h = let e = other_form (T.Union h.0) h.2 in absurd cc
  inside_of_type (enum n) h = let e = other_form (T.Enum h.0) h.2 in absurd cc
  inside_of_type unit h = let e = other_form (T.Unit h.0) h.1 in absurd cc
  inside_of_type (hamt d) h = let e = other_form (T.Map h.0 h.1 h.2 h.3 (M.Hamt h.4)) h.5 in absurd cc
  inside_of_type (any d) h = of_any_data d h.1

  -- ---- what is there may stand there

  fits_by : (o : Option Value) (b : Bool) (q : Slot × Value) (slot : Slot) → option_map (λ v. (slot, v)) o ≡ Some q → (is_some o || b) ≡ true
  fits_by None b q slot h = absurd (none-some q h)
  fits_by (Some v) b q slot h = refl

  stands_of : (k : Holder) (slot : Slot) (s : List ℕ) (q : InSlot) → IsHeld slot k → part k s ≡ Some q → MayStand is_key k s
  stands_of (fields fs os) slot s q h e = refl
  stands_of (member ms n v) slot s q h e = refl
  stands_of (entries key elem paired ps) slot s q h e = fits_by (value_at s ps) (is_key key s) q elem e
  stands_of (elements elem vs) slot s q h e = refl
  stands_of (any_entries ms) slot s q h e = let x = inside_any (value_at s ms) q e in (each_found EntryIsTree s x.0 ms h.1 x.1).0
  stands_of (any_elements ds) slot s q h e = refl
  stands_of (nothing v) slot s q h e = refl

  pub types_are_kept : IsKept rows is_key (λ slot v. ByParts rows is_key slot v)
  types_are_kept = record {
    parts = λ p q s h e. part_of (seen rows p) p.0 s q (held p.1 p.0 h) e;
    slots = λ p q s h e. slot_of (seen rows p) p.0 s q (held p.1 p.0 h) e;
    there = λ p q s h e. stands_of (seen rows p) p.0 s q (held p.1 p.0 h) e;
    set = λ p s slot w h e fits new. unheld (set_part (seen rows p) s w) p.0 (set_of (seen rows p) p.0 s slot w (held p.1 p.0 h) e fits new);
    inserted = λ p s slot w h e fits new. unheld (insert_part (seen rows p) s w) p.0 (inserted_of (seen rows p) p.0 s slot w (held p.1 p.0 h) e fits new);
    deleted = λ p s h e. unheld (delete_part (seen rows p) s) p.0 (deleted_of (seen rows p) p.0 s (held p.1 p.0 h) e);
    inside = λ v h. inside_of_type v h;
  }
