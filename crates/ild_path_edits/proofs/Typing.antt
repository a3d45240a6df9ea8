-- Being of a type goes to the parts, and is kept by each edit of the table.
use Rattle.std.proofs.Common.{cond, ◌≡◌, ℕ, zero, suc, List, [], ◌∷◌, slice_get, Bool, true, false, Option, Some, None, refl, ap, sym, subst, ◌∙◌}
use Rattle.std.specs.List.{AllByRecursion}
use Rattle.std.specs.Prelude.{slice_set, insert, remove, IsUtf8}
use Rattle.std.specs.Ordering.{match_ordering}
use Rattle.std.specs.Cmp.Lexicographic.{same_text as text_same}
use Rattle.std.specs.declared.cmp.Ordering.{Ordering}
use Rattle.std.specs.declared.cmp.Ordering.TheVariants.{Less, Equal, Greater}
use Rattle.std.proofs.lemmas.Option.{same_Some, none-some}
use Rattle.ild_data.specs.Data as D
use Rattle.ild_data.specs.Data.{Data, Items, no_items, item, items_of, items_list, Members, no_members, members_of, members_list}
use Rattle.ild_data.specs.Key.{key_cmp, same_text, put, value_at, without, IsBelow, Rises}
use Rattle.ild_data.specs.Tree.{IsTree, AreTrees, AreEntries}
use Rattle.ild_data.proofs.Lists.{members_list-members_of}
use Rattle.ild_data.proofs.Rising.{rises_put, rises_without}
use Rattle.ild_schema.specs.declared.def.Field.{Field}
use Rattle.ild_schema.specs.declared.number.Slot.{Slot}
use Rattle.ild_schema.specs.declared.row.Row.{Row}
use Rattle.ild_schema.specs.Value.{Value, Values, no_values, value, Pairs, no_pairs, pair, Optionals, no_optionals, absent, present, values_of, values_list, pairs_of, pairs_list, optionals_of, optionals_list}
use Rattle.ild_splice_changes.proofs.Maps.{own_text}
use Rattle.ild_typed.specs.Segment.{put_by, put_last, at_index}
use Rattle.ild_value_meaning.proofs.ByParts.{ByParts, AreByParts, EntriesByParts, FieldsByParts, AreDistinct, AreInOrder}
use Rattle.ild_path_edits.proofs.Entries.{put_last-other}

-- no key stands twice where one is put or taken away
distinct_first : {V : Type 0} (k : List ℕ) (v : V) (m : List ℕ × V) (ms : List (List ℕ × V)) (b : Bool) → b ≡ same_text k m.0 → AreDistinct (m ∷ ms) → AreDistinct (put_last k v ms)
    → AreDistinct (cond b ((k, v) ∷ ms) (m ∷ put_last k v ms))
distinct_first k v m ms true e h rest = (subst (λ j. value_at j ms ≡ None) (sym (text_same k m.0 e)) h.0, h.1)
distinct_first k v m ms false e h rest = (put_last-other k m.0 v ms (λ p. differ (e ∙ (ap (same_text k) (sym p) ∙ own_text k))) ∙ h.0, rest)
  where
    differ : false ≡ true → ⊥
    differ h = absurd cc

distinct_put : {V : Type 0} (k : List ℕ) (v : V) (ms : List (List ℕ × V)) → AreDistinct ms → AreDistinct (put_last k v ms)
distinct_put k v [] h = (refl, tt)
distinct_put k v (m ∷ ms) h = distinct_first k v m ms (same_text k m.0) refl h (distinct_put k v ms h.1)

none_first : {V : Type 0} (j k : List ℕ) (m : List ℕ × V) (ms : List (List ℕ × V)) (b c : Bool) → same_text j m.0 ≡ c → cond c (Some m.1) (value_at j ms) ≡ None → (value_at j ms ≡ None → value_at j (without k ms) ≡ None)
    → value_at j (cond b ms (m ∷ without k ms)) ≡ None
none_first j k m ms b true e h rest = absurd (none-some m.1 (sym h))
none_first j k m ms true false e h rest = h
none_first j k m ms false false e h rest = rw e (rest h)

none_without : {V : Type 0} (j k : List ℕ) (ms : List (List ℕ × V)) → value_at j ms ≡ None → value_at j (without k ms) ≡ None
none_without j k [] h = refl
none_without j k (m ∷ ms) h = none_first j k m ms (same_text k m.0) (same_text j m.0) refl h (λ g. none_without j k ms g)

distinct_gone : {V : Type 0} (k : List ℕ) (m : List ℕ × V) (ms : List (List ℕ × V)) (b : Bool) → AreDistinct (m ∷ ms) → AreDistinct (without k ms) → AreDistinct (cond b ms (m ∷ without k ms))
distinct_gone k m ms true h rest = h.1
distinct_gone k m ms false h rest = (none_without m.0 k ms h.0, rest)

distinct_without : {V : Type 0} (k : List ℕ) (ms : List (List ℕ × V)) → AreDistinct ms → AreDistinct (without k ms)
distinct_without k [] h = tt
distinct_without k (m ∷ ms) h = distinct_gone k m ms (same_text k m.0) h (distinct_without k ms h.1)

pub in_order_put : {V : Type 0} (b : Bool) (k : List ℕ) (v : V) (ms : List (List ℕ × V)) → AreInOrder b ms → AreInOrder b (put_by b k v ms)
in_order_put true k v ms h = distinct_put k v ms h
in_order_put false k v ms h = rises_put k v ms h

pub in_order_without : {V : Type 0} (b : Bool) (k : List ℕ) (ms : List (List ℕ × V)) → AreInOrder b ms → AreInOrder b (without k ms)
in_order_without true k ms h = distinct_without k ms h
in_order_without false k ms h = rises_without k ms h

-- a property of each element
abbrev pub Each : {X : Type 0} → (X → Type 0) → List X → Type 0
Each P xs = AllByRecursion P xs

pub each_got : {X : Type 0} (P : X → Type 0) (xs : List X) (i : ℕ) (x : X) → Each P xs → slice_get xs i ≡ Some x → P x
each_got P [] i x h e = absurd (none-some x e)
each_got P (y ∷ ys) zero x h e = subst P (same_Some y x e) h.0
each_got P (y ∷ ys) (suc i) x h e = each_got P ys i x h.1 e

pub each_with : {X : Type 0} (P : X → Type 0) (xs : List X) (i : ℕ) (x : X) → Each P xs → P x → Each P (slice_set xs i x)
each_with P [] i x h p = tt
each_with P (y ∷ ys) zero x h p = (p, h.1)
each_with P (y ∷ ys) (suc i) x h p = (h.0, each_with P ys i x h.1 p)

pub each_inserted : {X : Type 0} (P : X → Type 0) (xs : List X) (i : ℕ) (x : X) → Each P xs → P x → Each P (insert xs i x)
each_inserted P [] zero x h p = (p, tt)
each_inserted P [] (suc i) x h p = (p, tt)
each_inserted P (y ∷ ys) zero x h p = (p, h)
each_inserted P (y ∷ ys) (suc i) x h p = (h.0, each_inserted P ys i x h.1 p)

pub each_removed : {X : Type 0} (P : X → Type 0) (xs : List X) (i : ℕ) → Each P xs → Each P (remove xs i)
each_removed P [] zero h = tt
each_removed P [] (suc i) h = tt
each_removed P (y ∷ ys) zero h = h.1
each_removed P (y ∷ ys) (suc i) h = (h.0, each_removed P ys i h.1)

pub each_at : {X : Type 0} (P : X → Type 0) (f : ℕ → List X → List X) (o : Option ℕ) (xs : List X) → Each P xs → ((i : ℕ) → Each P (f i xs)) → Each P (at_index f o xs)
each_at P f None xs h g = h
each_at P f (Some i) xs h g = g i

-- of entries
each_put_at : {V : Type 0} (P : List ℕ × V → Type 0) (k : List ℕ) (v : V) (m : List ℕ × V) (ms : List (List ℕ × V)) (o : Ordering) → Each P (m ∷ ms) → P (k, v) → Each P (put k v ms)
    → Each P (match_ordering o ((k, v) ∷ m ∷ ms) ((k, v) ∷ ms) (m ∷ put k v ms))
each_put_at P k v m ms Less h p rest = (p, h)
each_put_at P k v m ms Equal h p rest = (p, h.1)
each_put_at P k v m ms Greater h p rest = (h.0, rest)

pub each_put : {V : Type 0} (P : List ℕ × V → Type 0) (k : List ℕ) (v : V) (ms : List (List ℕ × V)) → Each P ms → P (k, v) → Each P (put k v ms)
each_put P k v [] h p = (p, tt)
each_put P k v (m ∷ ms) h p = each_put_at P k v m ms (key_cmp k m.0) h p (each_put P k v ms h.1 p)

each_last_at : {V : Type 0} (P : List ℕ × V → Type 0) (k : List ℕ) (v : V) (m : List ℕ × V) (ms : List (List ℕ × V)) (b : Bool) → Each P (m ∷ ms) → P (k, v) → Each P (put_last k v ms)
    → Each P (cond b ((k, v) ∷ ms) (m ∷ put_last k v ms))
each_last_at P k v m ms true h p rest = (p, h.1)
each_last_at P k v m ms false h p rest = (h.0, rest)

each_last : {V : Type 0} (P : List ℕ × V → Type 0) (k : List ℕ) (v : V) (ms : List (List ℕ × V)) → Each P ms → P (k, v) → Each P (put_last k v ms)
each_last P k v [] h p = (p, tt)
each_last P k v (m ∷ ms) h p = each_last_at P k v m ms (same_text k m.0) h p (each_last P k v ms h.1 p)

pub each_by : {V : Type 0} (P : List ℕ × V → Type 0) (b : Bool) (k : List ℕ) (v : V) (ms : List (List ℕ × V)) → Each P ms → P (k, v) → Each P (put_by b k v ms)
each_by P true k v ms h p = each_last P k v ms h p
each_by P false k v ms h p = each_put P k v ms h p

each_gone : {V : Type 0} (P : List ℕ × V → Type 0) (k : List ℕ) (m : List ℕ × V) (ms : List (List ℕ × V)) (b : Bool) → Each P (m ∷ ms) → Each P (without k ms) → Each P (cond b ms (m ∷ without k ms))
each_gone P k m ms true h rest = h.1
each_gone P k m ms false h rest = (h.0, rest)

pub each_without : {V : Type 0} (P : List ℕ × V → Type 0) (k : List ℕ) (ms : List (List ℕ × V)) → Each P ms → Each P (without k ms)
each_without P k [] h = tt
each_without P k (m ∷ ms) h = each_gone P k m ms (same_text k m.0) h (each_without P k ms h.1)

found_at : {V : Type 0} (P : List ℕ × V → Type 0) (k : List ℕ) (v : V) (m : List ℕ × V) (ms : List (List ℕ × V)) (b : Bool) → b ≡ same_text k m.0 → Each P (m ∷ ms) → cond b (Some m.1) (value_at k ms) ≡ Some v
    → (value_at k ms ≡ Some v → P (k, v)) → P (k, v)
found_at P k v m ms true e h g rest = subst P (λ i. (sym (text_same k m.0 e) i, same_Some m.1 v g i)) h.0
found_at P k v m ms false e h g rest = rest g

pub each_found : {V : Type 0} (P : List ℕ × V → Type 0) (k : List ℕ) (v : V) (ms : List (List ℕ × V)) → Each P ms → value_at k ms ≡ Some v → P (k, v)
each_found P k v [] h e = absurd (none-some v e)
each_found P k v (m ∷ ms) h e = found_at P k v m ms (same_text k m.0) refl h e (λ g. each_found P k v ms h.1 g)

-- the items and entries of a tree
pub trees_each : (ds : Items) → AreTrees ds → Each IsTree (items_list ds)
trees_each no_items h = tt
trees_each (item d ds) h = (h.0, trees_each ds h.1)

pub each_trees : (ds : List Data) → Each IsTree ds → AreTrees (items_of ds)
each_trees [] h = tt
each_trees (d ∷ ds) h = (h.0, each_trees ds h.1)

abbrev pub EntryIsTree : List ℕ × Data → Type 0
EntryIsTree m = IsUtf8 m.0 × IsTree m.1

pub entries_each : (ms : Members) → AreEntries ms → Each EntryIsTree (members_list ms)
entries_each no_members h = tt
entries_each (D.member k d ms) h = ((h.0, h.1), entries_each ms h.3)

pub entries_rise : (ms : Members) → AreEntries ms → Rises (members_list ms)
entries_rise no_members h = tt
entries_rise (D.member k d ms) h = (h.2, entries_rise ms h.3)

pub each_entries : (ms : List (List ℕ × Data)) → Each EntryIsTree ms → Rises ms → AreEntries (members_of ms)
each_entries [] h up = tt
each_entries (m ∷ ms) h up = ((h.0).0, (h.0).1, subst (λ xs. IsBelow m.0 xs) (sym (members_list-members_of ms)) up.0, each_entries ms h.1 up.1)

module _ (rows : List Row) (is_key : ℕ → List ℕ → Bool) where
  -- the elements, entries and fields of a value, as plain lists
  abbrev pub EntryOfType : ℕ → Slot → List ℕ × Value → Type 0
  EntryOfType key slot p = (is_key key p.0 ≡ true) × ByParts rows is_key slot p.1

  pub values_each : (slot : Slot) (vs : Values) → AreByParts rows is_key slot vs → Each (λ v. ByParts rows is_key slot v) (values_list vs)
  values_each slot no_values h = tt
  values_each slot (value v vs) h = (h.0, values_each slot vs h.1)

  pub each_values : (slot : Slot) (xs : List Value) → Each (λ v. ByParts rows is_key slot v) xs → AreByParts rows is_key slot (values_of xs)
  each_values slot [] h = tt
  each_values slot (x ∷ xs) h = (h.0, each_values slot xs h.1)

  pub pairs_each : (key : ℕ) (slot : Slot) (ps : Pairs) → EntriesByParts rows is_key key slot ps → Each (EntryOfType key slot) (pairs_list ps)
  pairs_each key slot no_pairs h = tt
  pairs_each key slot (pair k v ps) h = ((h.0, h.1), pairs_each key slot ps h.2)

  pub each_pairs : (key : ℕ) (slot : Slot) (xs : List (List ℕ × Value)) → Each (EntryOfType key slot) xs → EntriesByParts rows is_key key slot (pairs_of xs)
  each_pairs key slot [] h = tt
  each_pairs key slot (x ∷ xs) h = ((h.0).0, (h.0).1, each_pairs key slot xs h.1)

  -- fields beside their declarations
  abbrev pub FieldOfType : Field → Option Value → Type 0
  FieldOfType f None = f.optional ≡ true
  FieldOfType f (Some v) = ByParts rows is_key f.slot v

  abbrev pub EachField : List Field → List (Option Value) → Type 0
  EachField [] [] = Unit {0}
  EachField [] (o ∷ os) = ⊥
  EachField (f ∷ fs) [] = ⊥
  EachField (f ∷ fs) (o ∷ os) = FieldOfType f o × EachField fs os

  pub fields_each : (fs : List Field) (os : Optionals) → FieldsByParts rows is_key fs os → EachField fs (optionals_list os)
  fields_each [] no_optionals h = tt
  fields_each (f ∷ fs) no_optionals h = h
  fields_each [] (absent os) h = h
  fields_each (f ∷ fs) (absent os) h = (h.0, fields_each fs os h.1)
  fields_each [] (present v os) h = h
  fields_each (f ∷ fs) (present v os) h = (h.0, fields_each fs os h.1)

  pub each_fields : (fs : List Field) (xs : List (Option Value)) → EachField fs xs → FieldsByParts rows is_key fs (optionals_of xs)
  each_fields [] [] h = tt
  each_fields [] (o ∷ os) h = absurd h
  each_fields (f ∷ fs) [] h = h
  each_fields (f ∷ fs) (None ∷ os) h = (h.0, each_fields fs os h.1)
  each_fields (f ∷ fs) (Some v ∷ os) h = (h.0, each_fields fs os h.1)
