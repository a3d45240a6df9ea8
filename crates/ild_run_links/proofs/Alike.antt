-- A part that is set where another stands that differs from it in links alone makes a value that differs in links alone.
use Rattle.std.proofs.Common.{cond, ◌≡◌, ℕ, zero, suc, List, [], ◌∷◌, map, slice_get, Bool, true, false, Option, Some, None, option_map, refl, ap, sym, ◌∙◌}
use Rattle.std.specs.Cmp.Lexicographic.{same_text as text_same}
use Rattle.std.specs.Option.{option_map_or}
use Rattle.std.specs.Prelude.{slice_set, option_and_then}
use Rattle.std.proofs.lemmas.Option.{same_Some, none-some}
use Rattle.ild_data.proofs.Rising.{rises_put}
use Rattle.ild_data.specs.Data as T
use Rattle.ild_data.specs.Data.{Data, items_of, members_of}
use Rattle.ild_data.specs.Key.{same_text, put, value_at, Rises}
use Rattle.ild_data_alike.specs.Blank.{blank, blank_items, blank_members, blank_entries}
use Rattle.ild_path_edits.proofs.HeldTyped.{IsHeld, held, held_named, inside_any, with_slot}
use Rattle.ild_path_edits.proofs.KeepTyped.{of_type_is_kept}
use Rattle.ild_path_within.proofs.Splitting.{first_of_path}
use Rattle.ild_path_within.specs.Within.{with_part}
use Rattle.ild_schema.specs.Value as V
use Rattle.ild_schema.specs.Value.{Value, values_of, pairs_of, optionals_of}
use Rattle.ild_schema.specs.declared.def.Field.{Field}
use Rattle.ild_schema.specs.declared.number.Slot.{Slot}
use Rattle.ild_schema.specs.declared.row.Row.{Row}
use Rattle.ild_splice_changes.proofs.Maps.{put-replaces}
use Rattle.ild_splice_changes.specs.TreeChange.{replaced_at}
use Rattle.ild_typed.specs.At.{InSlot, at, seen}
use Rattle.ild_typed.specs.Holder.{Holder, fields, member, entries, elements, any_entries, any_elements, nothing, of_any, data_in, value_of}
use Rattle.ild_typed.specs.OfType.{OfType, TestsKeys}
use Rattle.ild_typed.specs.Schema.{IsSchema}
use Rattle.ild_typed.specs.Segment.{part, set_part, field_at, set_field, index_of, at_index, put_last, put_by}
use Rattle.ild_typed_alike.proofs.Paths.{blank_holder}
use Rattle.ild_typed_alike.specs.Blank.{blank_value, blank_values, blank_pairs, blank_optionals}
use Rattle.ild_typed_fronts.proofs.Pathing.{holder_back}
use Rattle.ild_value_meaning.proofs.ByParts.{AreInOrder}
use Rattle.ild_value_meaning.proofs.Told.{told}
use Rattle.ild_value_meaning.proofs.TypedByParts.{to_parts}

-- ---- lists in which one part is another

element_alike : {X Y : Type 0} (f : X → Y) (xs : List X) (i : ℕ) (x w : X) → slice_get xs i ≡ Some x → f w ≡ f x → map f (slice_set xs i w) ≡ map f xs
element_alike f [] i x w h e = refl
element_alike f (y ∷ ys) zero x w h e = ap (λ z. z ∷ map f ys) (e ∙ ap f (sym (same_Some y x h)))
element_alike f (y ∷ ys) (suc i) x w h e = ap (λ zs. f y ∷ zs) (element_alike f ys i x w h e)

place_alike : {X Y : Type 0} (f : X → Y) (xs : List X) (o : Option ℕ) (x w : X) → option_and_then (λ i. slice_get xs i) o ≡ Some x → f w ≡ f x → map f (at_index (λ i ys. slice_set ys i w) o xs) ≡ map f xs
place_alike f xs None x w h e = refl
place_alike f xs (Some i) x w h e = element_alike f xs i x w h e

field_alike : (s : List ℕ) (fs : List Field) (os : List (Option Value)) (q : InSlot) (w : Value) → field_at s fs os ≡ Some q → blank_value w ≡ blank_value q.1
    → map (option_map blank_value) (set_field s (Some w) fs os) ≡ map (option_map blank_value) os
field_alike s [] os q w h e = refl
field_alike s (f ∷ fs) [] q w h e = refl
field_alike s (f ∷ fs) (o ∷ os) q w h e = by (same_text s f.name) o h (λ g. field_alike s fs os q w g e) where
  by : (b : Bool) (o : Option Value) → cond b (option_map {U = InSlot} (λ v. (f.slot, v)) o) (field_at s fs os) ≡ Some q
      → (field_at s fs os ≡ Some q → map (option_map blank_value) (set_field s (Some w) fs os) ≡ map (option_map blank_value) os)
      → map (option_map blank_value) (cond b (Some w ∷ os) (o ∷ set_field s (Some w) fs os)) ≡ option_map blank_value o ∷ map (option_map blank_value) os
  by true None h rest = absurd (none-some q h)
  by true (Some v) h rest = ap (λ x. Some x ∷ map (option_map blank_value) os) (e ∙ ap (λ (r : InSlot). blank_value r.1) (sym (same_Some (f.slot, v) q h)))
  by false o h rest = ap (λ xs. option_map blank_value o ∷ xs) (rest h)

module _ {X : Type 0} (f : X → X) where
  abbrev In : List ℕ × X → List ℕ × X
  In m = (m.0, f m.1)

  replaced_alike : (k : List ℕ) (x w : X) (ms : List (List ℕ × X)) → value_at k ms ≡ Some x → f w ≡ f x → map In (replaced_at k w ms) ≡ map In ms
  replaced_alike k x w [] h e = refl
  replaced_alike k x w (m ∷ ms) h e = by (same_text k m.0) h (λ g. replaced_alike k x w ms g e) where
    by : (b : Bool) → cond b (Some m.1) (value_at k ms) ≡ Some x → (value_at k ms ≡ Some x → map In (replaced_at k w ms) ≡ map In ms) → map In (cond b ((m.0, w) ∷ ms) (m ∷ replaced_at k w ms)) ≡ In m ∷ map In ms
    by true h rest = ap (λ y. (m.0, y) ∷ map In ms) (e ∙ ap f (sym (same_Some m.1 x h)))
    by false h rest = ap (λ zs. In m ∷ zs) (rest h)

  put_alike : (k : List ℕ) (x w : X) (ms : List (List ℕ × X)) → Rises ms → value_at k ms ≡ Some x → f w ≡ f x → map In (put k w ms) ≡ map In ms
  put_alike k x w ms up h e = ap (map In) (put-replaces k x w ms up (rises_put k w ms up) h) ∙ replaced_alike k x w ms h e

  last_alike : (k : List ℕ) (x w : X) (ms : List (List ℕ × X)) → value_at k ms ≡ Some x → f w ≡ f x → map In (put_last k w ms) ≡ map In ms
  last_alike k x w [] h e = absurd (none-some x h)
  last_alike k x w (m ∷ ms) h e = by (same_text k m.0) refl h (λ g. last_alike k x w ms g e) where
    by : (b : Bool) → b ≡ same_text k m.0 → cond b (Some m.1) (value_at k ms) ≡ Some x → (value_at k ms ≡ Some x → map In (put_last k w ms) ≡ map In ms) → map In (cond b ((k, w) ∷ ms) (m ∷ put_last k w ms)) ≡ In m ∷ map In ms
    by true is h rest = ap (λ j. (j, f w) ∷ map In ms) (text_same k m.0 is) ∙ ap (λ y. (m.0, y) ∷ map In ms) (e ∙ ap f (sym (same_Some m.1 x h)))
    by false is h rest = ap (λ zs. In m ∷ zs) (rest h)

  by_alike : (b : Bool) (k : List ℕ) (x w : X) (ms : List (List ℕ × X)) → AreInOrder b ms → value_at k ms ≡ Some x → f w ≡ f x → map In (put_by b k w ms) ≡ map In ms
  by_alike true k x w ms up h e = last_alike k x w ms h e
  by_alike false k x w ms up h e = put_alike k x w ms up h e

-- ---- data inside an Any

data_blank : (w : Value) → blank (data_in w) ≡ data_in (blank_value w)
data_blank V.null = refl
data_blank (V.boolean b) = refl
data_blank (V.integer n) = refl
data_blank (V.text s) = refl
data_blank (V.bytes s) = refl
data_blank (V.link s) = refl
data_blank (V.list vs) = refl
data_blank (V.map ps) = refl
data_blank (V.struct os) = refl
data_blank (V.union n v) = refl
data_blank (V.enum n) = refl
data_blank V.unit = refl
data_blank (V.any d) = refl
data_blank (V.hamt d) = refl

data_back : (d : Data) → data_in (of_any d) ≡ d
data_back T.null = refl
data_back (T.boolean b) = refl
data_back (T.integer n) = refl
data_back (T.text s) = refl
data_back (T.bytes s) = refl
data_back (T.list ds) = refl
data_back (T.map ms) = refl
data_back (T.link s) = refl

data_alike : (w : Value) (d : Data) → blank_value w ≡ blank_value (of_any d) → blank (data_in w) ≡ blank d
data_alike w d e = data_blank w ∙ ap data_in e ∙ sym (data_blank (of_any d)) ∙ ap blank (data_back d)

-- ---- holders

optionals_blank : (os : List (Option Value)) → blank_optionals (optionals_of os) ≡ optionals_of (map (option_map blank_value) os)
optionals_blank [] = refl
optionals_blank (None ∷ os) = ap V.absent (optionals_blank os)
optionals_blank (Some v ∷ os) = ap (V.present (blank_value v)) (optionals_blank os)

pairs_blank : (ps : List (List ℕ × Value)) → blank_pairs (pairs_of ps) ≡ pairs_of (map (λ (e : List ℕ × Value). (e.0, blank_value e.1)) ps)
pairs_blank [] = refl
pairs_blank (e ∷ ps) = ap (V.pair e.0 (blank_value e.1)) (pairs_blank ps)

values_blank : (vs : List Value) → blank_values (values_of vs) ≡ values_of (map blank_value vs)
values_blank [] = refl
values_blank (v ∷ vs) = ap (V.value (blank_value v)) (values_blank vs)

members_blank : (ms : List (List ℕ × Data)) → blank_members (members_of ms) ≡ members_of (blank_entries ms)
members_blank [] = refl
members_blank (m ∷ ms) = ap (T.member m.0 (blank m.1)) (members_blank ms)

items_blank : (ds : List Data) → blank_items (items_of ds) ≡ items_of (map blank ds)
items_blank [] = refl
items_blank (d ∷ ds) = ap (T.item (blank d)) (items_blank ds)

value_blank : (k : Holder) → blank_value (value_of k) ≡ value_of (blank_holder k)
value_blank (fields fs os) = ap V.struct (optionals_blank os)
value_blank (member ms n v) = refl
value_blank (entries key slot paired ps) = ap V.map (pairs_blank ps)
value_blank (elements slot vs) = ap V.list (values_blank vs)
value_blank (any_entries ms) = ap (λ x. V.any (T.map x)) (members_blank ms)
value_blank (any_elements ds) = ap (λ x. V.any (T.list x)) (items_blank ds)
value_blank (nothing v) = refl

-- ---- values

module _ (rows : List Row) (is_key : ℕ → List ℕ → Bool) (schema : IsSchema rows) (keys : TestsKeys rows is_key) where
  abbrev Holds : Slot → Holder → Type 0
  Holds slot k = IsHeld rows is_key (told rows schema).apart (told rows schema).any_there slot k

  part_alike : (k : Holder) (slot : Slot) (s : List ℕ) (q : InSlot) (w : Value) → Holds slot k → part k s ≡ Some q → blank_value w ≡ blank_value q.1 → blank_holder (set_part k s w) ≡ blank_holder k
  part_alike (fields fs os) slot s q w x h e = ap (fields fs) (field_alike s fs os q w h e)
  part_alike (member ms n v) slot s q w x h e =
      let named = held_named rows is_key (told rows schema).apart (told rows schema).any_there slot ms n v s q x h in
      ap (λ o. blank_holder (option_map_or (λ p. member ms p.0 w) o (member ms n v))) named.0 ∙ ap (member ms n) (e ∙ ap (λ (r : InSlot). blank_value r.1) (sym named.1))
  part_alike (entries key elem paired ps) slot s q w x h e =
      let y = with_slot elem (value_at s ps) q h in
      ap (entries key elem paired) (by_alike blank_value paired s y.0 w ps x.8 y.1 (e ∙ ap (λ (r : InSlot). blank_value r.1) (sym y.2)))
  part_alike (elements elem vs) slot s q w x h e =
      let y = with_slot elem (option_and_then (λ i. slice_get vs i) (index_of s)) q h in
      ap (elements elem) (place_alike blank_value vs (index_of s) y.0 w y.1 (e ∙ ap (λ (r : InSlot). blank_value r.1) (sym y.2)))
  part_alike (any_entries ms) slot s q w x h e =
      let y = inside_any (value_at s ms) q h in
      ap any_entries (put_alike blank s y.0 (data_in w) ms x.2 y.1 (data_alike w y.0 (e ∙ ap (λ (r : InSlot). blank_value r.1) (sym y.2))))
  part_alike (any_elements ds) slot s q w x h e =
      let y = inside_any (option_and_then (λ i. slice_get ds i) (index_of s)) q h in
      ap any_elements (place_alike blank ds (index_of s) y.0 (data_in w) y.1 (data_alike w y.0 (e ∙ ap (λ (r : InSlot). blank_value r.1) (sym y.2))))
  part_alike (nothing v) slot s q w x h e = absurd (none-some q h)

  step_alike : (p q : InSlot) (s : List ℕ) (w : Value) → OfType rows p.0 p.1 → part (seen rows p) s ≡ Some q → blank_value w ≡ blank_value q.1 → blank_value (value_of (set_part (seen rows p) s w)) ≡ blank_value p.1
  step_alike p q s w is h e =
      let ok = told rows schema in
      value_blank (set_part (seen rows p) s w)
      ∙ ap value_of (part_alike (seen rows p) p.0 s q w (held rows is_key ok.apart ok.any_there p.1 p.0 (to_parts rows is_key keys p.1 p.0 is)) h e)
      ∙ sym (value_blank (seen rows p)) ∙ ap blank_value (holder_back rows p.0 p.1)

  pub with_alike : (path : List (List ℕ)) (p q : InSlot) (m : Value) → OfType rows p.0 p.1 → at rows p path ≡ Some q → blank_value m ≡ blank_value q.1 → blank_value (with_part rows p path m) ≡ blank_value p.1
  with_alike [] p q m is h e = e ∙ ap (λ (r : InSlot). blank_value r.1) (sym (same_Some p q h))
  with_alike (s ∷ ss) p q m is h e =
      let x = first_of_path rows p q s ss h in
      ap (λ o. blank_value (option_map_or (λ r. value_of (set_part (seen rows p) s (with_part rows r ss m))) o p.1)) x.there
      ∙ step_alike p x.item s (with_part rows x.item ss m) is x.there (with_alike ss x.item q m ((of_type_is_kept rows is_key schema keys).parts p x.item s is x.there) x.made e)
