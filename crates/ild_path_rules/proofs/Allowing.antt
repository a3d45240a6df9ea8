-- The table of edits by the form of the holder: by the names of fields and members, and by what is there.
use Rattle.std.proofs.Common.{◌≡◌, ◌≤◌, ◌<◌, ◌^◌, ◌||◌, ℕ, List, [], ◌∷◌, length, Bool, true, false, not, cond, Option, Some, None, option_map, refl, sym, ◌∙◌, ap, arith}
use Rattle.std.specs.Prelude.{◌↔◌, IfOk, IsUtf8, Result, Ok, Err, codes, is_some, nat_le, option_and_then, slice_get}
use Rattle.std.specs.Option.{option_map_or}
use Rattle.std.specs.declared.alloc.AllocError.{AllocError}
use Rattle.std.proofs.lemmas.Bool.{leb-true}
use Rattle.std.proofs.lemmas.Option.{none-some}
use Rattle.ild_path_rules.specs.Form.{HoldsElements, HoldsEntries, HoldsFields, HoldsMember, elements_inside, elements_of, entries_inside, entries_of, field_named, key_in, left_out, may_go, member_called}
use Rattle.ild_path_rules.specs.Refusal.{refusal}
use Rattle.ild_data.specs.Key.{same_text, value_at}
use Rattle.ild_path_edits.specs.Table.{declared_slot, field_kept, if_absent, if_present, key_fits, never, new_index, refusal_to_delete, slot_left_out, slot_to_insert, slot_to_set, unless_there, up_to}
use Rattle.ild_schema.specs.Prelude.{anything}
use Rattle.ild_schema.specs.Slots.{plainly}
use Rattle.ild_schema.specs.Value.{Value}
use Rattle.ild_schema.specs.declared.def.Field.{Field}
use Rattle.ild_schema.specs.declared.def.Member.{Member}
use Rattle.ild_schema.specs.declared.def.StructDef.{StructDef}
use Rattle.ild_schema.specs.declared.def.UnionDef.{UnionDef}
use Rattle.ild_schema.specs.declared.number.Slot.{Slot}
use Rattle.ild_schema.specs.declared.number.TypeNo.{TypeNo}
use Rattle.ild_schema.specs.declared.row.Row.{Row}
use Rattle.ild_typed.specs.At.{InSlot, seen}
use Rattle.ild_typed.specs.Fits.{IsTextOf}
use Rattle.ild_typed.specs.Holder.{Holder, any_elements, any_entries, elements, entries, fields, member, nothing, of_any}
use Rattle.ild_typed.specs.OfType.{TestsKeys}
use Rattle.ild_typed.specs.Segment.{field_at, held_as, index_of, member_named, next_member, part}
use Rattle.ild_view.specs.Counted.{count_in}
use Rattle.ild_view.specs.View.{IsView, slot_of, table_of}
use Rattle.ild_view.specs.declared.view.View.{View}

absurdly : {A : Type 0} → true ≡ false → A
absurdly p = absurd cc

-- ---- fields

module _ (s : List ℕ) where
  slot_declared : (fs : List Field) (os : List (Option Value)) → length fs ≡ length os → declared_slot s fs os ≡ option_map (λ f. f.slot) (field_named s fs)
  slot_declared [] os h = refl
  slot_declared (f ∷ fs) [] h = absurd (omega (arith, h))
  slot_declared (f ∷ fs) (o ∷ os) h = let rest : length fs ≡ length os = omega (arith, h) in by (same_text s f.name) (slot_declared fs os rest) where
    by : (b : Bool) → declared_slot s fs os ≡ option_map (λ g. g.slot) (field_named s fs) → cond b (Some f.slot) (declared_slot s fs os) ≡ option_map (λ g. g.slot) (cond b (Some f) (field_named s fs))
    by true k = refl
    by false k = k

  absent : (f : Field) (o : Option Value) → if_absent f.slot f.optional o ≡ left_out (is_some {T = InSlot} (option_map (λ (v : Value). (f.slot, v)) o)) f
  absent f (Some v) = refl
  absent f None = refl

  slot_absent : (fs : List Field) (os : List (Option Value)) → length fs ≡ length os → slot_left_out s fs os ≡ option_and_then (left_out (is_some (field_at s fs os))) (field_named s fs)
  slot_absent [] os h = refl
  slot_absent (f ∷ fs) [] h = absurd (omega (arith, h))
  slot_absent (f ∷ fs) (o ∷ os) h = let rest : length fs ≡ length os = omega (arith, h) in by (same_text s f.name) (slot_absent fs os rest) where
    by : (b : Bool) → slot_left_out s fs os ≡ option_and_then (left_out (is_some (field_at s fs os))) (field_named s fs)
        → cond b (if_absent f.slot f.optional o) (slot_left_out s fs os) ≡ option_and_then (left_out (is_some {T = InSlot} (cond b (option_map (λ v. (f.slot, v)) o) (field_at s fs os)))) (cond b (Some f) (field_named s fs))
    by true k = absent f o
    by false k = k

  present : (f : Field) (o : Option Value) → if_present f.optional o ≡ refusal (is_some {T = InSlot} (option_map (λ (v : Value). (f.slot, v)) o)) f.optional
  present f (Some v) = refl
  present f None = refl

  kept_field : (fs : List Field) (os : List (Option Value)) → field_kept s fs os ≡ refusal (is_some (field_at s fs os)) (option_map_or (λ f. f.optional) (field_named s fs) false)
  kept_field [] os = refl
  kept_field (f ∷ fs) [] = refl
  kept_field (f ∷ fs) (o ∷ os) = by (same_text s f.name) (kept_field fs os) where
    by : (b : Bool) → field_kept s fs os ≡ refusal (is_some (field_at s fs os)) (option_map_or (λ g. g.optional) (field_named s fs) false)
        → cond b (if_present f.optional o) (field_kept s fs os) ≡ refusal (is_some {T = InSlot} (cond b (option_map (λ v. (f.slot, v)) o) (field_at s fs os))) (option_map_or (λ g. g.optional) (cond b (Some f) (field_named s fs)) false)
    by true k = present f o
    by false k = k

  -- ---- members

  slot_of_next : (o : Option (ℕ × Member)) → option_map (λ (p : ℕ × Member). plainly (p.1).ty) (option_map next_member o) ≡ option_map (λ (p : ℕ × Member). plainly (p.1).ty) o
  slot_of_next None = refl
  slot_of_next (Some p) = refl

  slot_member : (ms : List Member) → option_map (λ (p : ℕ × Member). plainly (p.1).ty) (member_named s ms) ≡ option_map (λ m. plainly m.ty) (member_called s ms)
  slot_member [] = refl
  slot_member (m ∷ ms) = by (same_text s m.name) (slot_member ms) where
    by : (b : Bool) → option_map (λ (p : ℕ × Member). plainly (p.1).ty) (member_named s ms) ≡ option_map (λ m. plainly m.ty) (member_called s ms)
        → option_map (λ (p : ℕ × Member). plainly (p.1).ty) (cond b (Some (0, m)) (option_map next_member (member_named s ms))) ≡ option_map (λ m. plainly m.ty) (cond b (Some m) (member_called s ms))
    by true k = refl
    by false k = slot_of_next (member_named s ms) ∙ k

  -- ---- what is there, in maps and lists

  first_of : {X : Type 0} (slot : Slot) (to : X → Value) (o : Option X) → option_map (λ x. slot) o ≡ option_map (λ (q : InSlot). q.0) (option_map (λ x. (slot, to x)) o)
  first_of slot to None = refl
  first_of slot to (Some x) = refl

  some_mapped : {X Y : Type 0} (g : X → Y) (o : Option X) → is_some (option_map g o) ≡ is_some o
  some_mapped g None = refl
  some_mapped g (Some x) = refl

  unless : {X : Type 0} (slot : Slot) (g : X → InSlot) (o : Option X) → cond (is_some o) None (Some slot) ≡ cond (not (is_some (option_map g o))) (Some slot) None
  unless slot g None = refl
  unless slot g (Some x) = refl

  if_some : {X : Type 0} (slot : Slot) (o : Option X) → option_map (λ x. slot) o ≡ cond (is_some o) (Some slot) None
  if_some slot None = refl
  if_some slot (Some x) = refl

  gone : {X : Type 0} (g : X → InSlot) (o : Option X) → unless_there o ≡ refusal (is_some (option_map g o)) true
  gone g None = refl
  gone g (Some x) = refl

  stays : {X : Type 0} (o : Option X) → never o ≡ refusal (is_some o) false
  stays None = refl
  stays (Some x) = refl

  -- ---- the three verbs

  pub set_field_slot : (rows : List Row) (t : Slot) (def : StructDef) (h : Holder) (r : Option Slot) → HoldsFields rows t def h → r ≡ option_map (λ f. f.slot) (field_named s def.fields) → r ≡ slot_to_set h s
  set_field_slot rows t def h r x e = e ∙ sym (slot_declared def.fields x.values x.each) ∙ ap (λ k. slot_to_set k s) (sym x.is)

  pub set_member_slot : (rows : List Row) (t : Slot) (def : UnionDef) (h : Holder) (r : Option Slot) → HoldsMember rows t def h → r ≡ option_map (λ m. plainly m.ty) (member_called s def.members) → r ≡ slot_to_set h s
  set_member_slot rows t def h r x e = e ∙ sym (slot_member def.members) ∙ ap (λ k. slot_to_set k s) (sym x.is)

  pub set_entry_slot : (key : Option TypeNo) (slot : Slot) (h : Holder) → HoldsEntries key slot h → Some slot ≡ slot_to_set h s
  set_entry_slot key slot h (entries_of k paired ps e is) = ap (λ k. slot_to_set k s) (sym is)
  set_entry_slot key slot h (entries_inside ms e any is) = ap Some any ∙ ap (λ k. slot_to_set k s) (sym is)

  pub set_element_slot : (slot : Slot) (h : Holder) (r : Option Slot) → HoldsElements slot h → r ≡ option_map (λ q. q.0) (part h s) → r ≡ slot_to_set h s
  set_element_slot slot h r (elements_of vs is) e =
      e ∙ ap (λ k. option_map (λ (q : InSlot). q.0) (part k s)) is ∙ sym (first_of slot (λ v. v) (option_and_then (λ i. slice_get vs i) (index_of s))) ∙ ap (λ k. slot_to_set k s) (sym is)
  set_element_slot slot h r (elements_inside ds any is) e =
      e ∙ ap (λ k. option_map (λ (q : InSlot). q.0) (part k s)) is ∙ sym (first_of anything of_any (option_and_then (λ i. slice_get ds i) (index_of s))) ∙ ap (λ k. slot_to_set k s) (sym is)

  pub insert_field_slot : (rows : List Row) (t : Slot) (def : StructDef) (h : Holder) (there : Bool) (r : Option Slot) → HoldsFields rows t def h → there ≡ is_some (part h s) → r ≡ option_and_then (left_out there) (field_named s def.fields) → r ≡ slot_to_insert h s
  insert_field_slot rows t def h there r x is e =
      e ∙ ap (λ b. option_and_then (left_out b) (field_named s def.fields)) (is ∙ ap (λ k. is_some (part k s)) x.is) ∙ sym (slot_absent def.fields x.values x.each) ∙ ap (λ k. slot_to_insert k s) (sym x.is)

  pub insert_entry_slot : (key : Option TypeNo) (slot : Slot) (h : Holder) (there : Bool) (r : Option Slot) → HoldsEntries key slot h → there ≡ is_some (part h s) → r ≡ cond (not there) (Some slot) None → r ≡ slot_to_insert h s
  insert_entry_slot key slot h there r (entries_of k paired ps e is) told made =
      made ∙ ap (λ b. cond (not b) (Some slot) None) (told ∙ ap (λ k. is_some (part k s)) is) ∙ sym (unless slot (λ v. (slot, v)) (value_at s ps)) ∙ ap (λ k. slot_to_insert k s) (sym is)
  insert_entry_slot key slot h there r (entries_inside ms e any is) told made =
      made ∙ ap (λ b. cond (not b) (Some slot) None) (told ∙ ap (λ k. is_some (part k s)) is) ∙ sym (unless slot (λ d. (anything, of_any d)) (value_at s ms)) ∙ ap (λ u. cond (is_some (value_at s ms)) None (Some u)) any ∙ ap (λ k. slot_to_insert k s) (sym is)

  pub insert_element_slot : (slot : Slot) (h : Holder) (place : Bool) (r : Option Slot) → HoldsElements slot h → ((n : ℕ) → count_in h ≡ Some n → place ≡ is_some (new_index n s)) → r ≡ cond place (Some slot) None → r ≡ slot_to_insert h s
  insert_element_slot slot h place r (elements_of vs is) told made =
      made ∙ ap (λ b. cond b (Some slot) None) (told (length vs) (ap count_in is)) ∙ sym (if_some slot (new_index (length vs) s)) ∙ ap (λ k. slot_to_insert k s) (sym is)
  insert_element_slot slot h place r (elements_inside ds any is) told made =
      made ∙ ap (λ b. cond b (Some slot) None) (told (length ds) (ap count_in is)) ∙ sym (if_some slot (new_index (length ds) s)) ∙ ap (λ u. option_map (λ i. u) (new_index (length ds) s)) any ∙ ap (λ k. slot_to_insert k s) (sym is)

  pub refused : (h : Holder) → refusal_to_delete h s ≡ refusal (is_some (part h s)) (may_go h s)
  refused (fields fs os) = kept_field fs os
  refused (member ms n v) = stays (held_as s v (slice_get ms n))
  refused (entries key slot paired ps) = gone (λ v. (slot, v)) (value_at s ps)
  refused (elements slot vs) = gone (λ v. (slot, v)) (option_and_then (λ i. slice_get vs i) (index_of s))
  refused (any_entries ms) = gone (λ d. (anything, of_any d)) (value_at s ms)
  refused (any_elements ds) = gone (λ d. (anything, of_any d)) (option_and_then (λ i. slice_get ds i) (index_of s))
  refused (nothing v) = refl

  -- ---- what may go

  pub entry_may_go : (key : Option TypeNo) (slot : Slot) (h : Holder) → HoldsEntries key slot h → true ≡ may_go h s
  entry_may_go key slot h (entries_of k paired ps e is) = ap (λ k. may_go k s) (sym is)
  entry_may_go key slot h (entries_inside ms e any is) = ap (λ k. may_go k s) (sym is)

  pub element_may_go : (slot : Slot) (h : Holder) → HoldsElements slot h → true ≡ may_go h s
  element_may_go slot h (elements_of vs is) = ap (λ k. may_go k s) (sym is)
  element_may_go slot h (elements_inside ds any is) = ap (λ k. may_go k s) (sym is)

  -- ---- keys

  same_tests : {P : Type 0} (a b : Bool) → ((a ≡ true) ↔ P) → ((b ≡ true) ↔ P) → a ≡ b
  same_tests true b x y = sym (y.1 (x.0 refl))
  same_tests false true x y = x.1 (y.0 refl)
  same_tests false false x y = refl

  some_there : {X : Type 0} (g : X → InSlot) (o : Option X) (b : Bool) → is_some (option_map g o) ≡ true → true ≡ (is_some o || b)
  some_there g None b e = absurdly (sym e)
  some_there g (Some x) b e = refl

  none_there : {X : Type 0} (g : X → InSlot) (o : Option X) (b : Bool) → is_some (option_map g o) ≡ false → b ≡ (is_some o || b)
  none_there g None b e = refl
  none_there g (Some x) b e = absurdly e

-- ---- the type of the keys

pub entry_key : (key : Option TypeNo) (slot : Slot) (h : Holder) → HoldsEntries key slot h → option_map (λ k. k.0) key ≡ key_in h
entry_key key slot h (entries_of k paired ps e is) = ap (option_map (λ (n : TypeNo). n.0)) e ∙ ap key_in (sym is)
entry_key key slot h (entries_inside ms e any is) = ap (option_map (λ (n : TypeNo). n.0)) e ∙ ap key_in (sym is)

pub element_key : (slot : Slot) (h : Holder) → HoldsElements slot h → None ≡ key_in h
element_key slot h (elements_of vs is) = ap key_in (sym is)
element_key slot h (elements_inside ds any is) = ap key_in (sym is)

module _ (rows : List Row) (is_key : ℕ → List ℕ → Bool) (tests : TestsKeys rows is_key) (s : List ℕ) where
  -- a key that is there
  pub key_there : (key : ℕ) (h : Holder) → Some key ≡ key_in h → is_some (part h s) ≡ true → true ≡ key_fits is_key h s
  key_there key (entries k slot paired ps) e there = some_there s (λ v. (slot, v)) (value_at s ps) (is_key k s) there
  key_there key (fields fs os) e there = refl
  key_there key (member ms n v) e there = refl
  key_there key (elements slot vs) e there = refl
  key_there key (any_entries ms) e there = refl
  key_there key (any_elements ds) e there = refl
  key_there key (nothing v) e there = refl

  -- and one that is not
  pub key_new : (key : TypeNo) (fits : Bool) (h : Holder) → Some key.0 ≡ key_in h → is_some (part h s) ≡ false → IsUtf8 s → ((fits ≡ true) ↔ IsTextOf rows key s) → fits ≡ key_fits is_key h s
  key_new key fits (entries k slot paired ps) e there text says =
      let same : key.0 ≡ k = cc e in
      let test = tests key s in
      same_tests s fits (is_key key.0 s) says ((λ p. (test.0 p).1), (λ q. test.1 (text, q))) ∙ ap (λ n. is_key n s) same ∙ none_there s (λ v. (slot, v)) (value_at s ps) (is_key k s) there
  key_new key fits (fields fs os) e there text says = absurd (none-some key.0 (sym e))
  key_new key fits (member ms n v) e there text says = absurd (none-some key.0 (sym e))
  key_new key fits (elements slot vs) e there text says = absurd (none-some key.0 (sym e))
  key_new key fits (any_entries ms) e there text says = absurd (none-some key.0 (sym e))
  key_new key fits (any_elements ds) e there text says = absurd (none-some key.0 (sym e))
  key_new key fits (nothing v) e there text says = absurd (none-some key.0 (sym e))

  pub no_key : (h : Holder) → None ≡ key_in h → true ≡ key_fits is_key h s
  no_key (entries k slot paired ps) e = absurd (none-some k e)
  no_key (fields fs os) e = refl
  no_key (member ms n v) e = refl
  no_key (elements slot vs) e = refl
  no_key (any_entries ms) e = refl
  no_key (any_elements ds) e = refl
  no_key (nothing v) e = refl

-- a key that was tested
pub key_told : (v : View) (s : List ℕ) (key : TypeNo) (there : Bool) (r : Result Bool AllocError) → there ≡ false → ((f : Value) → IsView v f → Some key.0 ≡ key_in (seen (table_of v) (slot_of v, f)))
    → ((f : Value) → IsView v f → there ≡ is_some (part (seen (table_of v) (slot_of v, f)) s)) → IsUtf8 s → IfOk r (λ b. (b ≡ true) ↔ IsTextOf (table_of v) key s)
    → IfOk r (λ b. (f : Value) (is_key : ℕ → List ℕ → Bool) → IsView v f → TestsKeys (table_of v) is_key → b ≡ key_fits is_key (seen (table_of v) (slot_of v, f)) s)
key_told v s key there (Ok b) none own told text says = λ f is_key x tests. key_new (table_of v) is_key tests s key b (seen (table_of v) (slot_of v, f)) (own f x) (sym (told f x) ∙ none) text says
key_told v s key there (Err e) none own told text says = tt

-- ---- new indices

module _ (n : ℕ) (s : List ℕ) where
  pub end_is_new : same_text s (codes "-") ≡ true → true ≡ is_some (new_index n s)
  unfolding new_index
  end_is_new e = ap (λ b. is_some (cond b (Some n) (up_to n (index_of s)))) (sym e)

  pub index_is_new : (i : ℕ) → same_text s (codes "-") ≡ false → index_of s ≡ Some i → nat_le i n ≡ is_some (new_index n s)
  unfolding new_index
  index_is_new i e at = up (nat_le i n) ∙ (λ j. is_some (cond (sym e j) (Some n) (up_to n (sym at j)))) where
    up : (b : Bool) → b ≡ is_some (cond b (Some i) None)
    up true = refl
    up false = refl

  pub far_is_none : n < 2 ^ 64 → same_text s (codes "-") ≡ false → ((i : ℕ) → index_of s ≡ Some i → 2 ^ 64 ≤ i) → false ≡ is_some (new_index n s)
  unfolding new_index
  far_is_none few e far = by (index_of s) refl ∙ ap (λ b. is_some (cond b (Some n) (up_to n (index_of s)))) (sym e) where
    by : (o : Option ℕ) → index_of s ≡ o → false ≡ is_some (up_to n o)
    by None at = refl
    by (Some i) at = ap (λ b. is_some (cond b (Some i) None)) (beyond (far i at)) where
      beyond : 2 ^ 64 ≤ i → false ≡ nat_le i n
      beyond h = test (nat_le i n) refl where
        test : (b : Bool) → nat_le i n ≡ b → false ≡ b
        test false k = refl
        test true k = let low = leb-true i n k in absurd (omega (arith, low, h, few))
