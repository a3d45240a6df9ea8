-- The shown form of a value shows it.
use Rattle.std.proofs.Common.{cond, ◌≡◌, inl, ℕ, List, [], ◌∷◌, Bool, true, false, Option, Some, None, refl, ap, sym, subst, ◌∙◌}
use Rattle.std.specs.Prelude.{is_some, ◌&&◌}
use Rattle.std.specs.List.{AllByRecursion}
use Rattle.std.specs.Option.{option_map_or}
use Rattle.std.proofs.lemmas.Option.{none-some}
use Rattle.ild_data.specs.Data as D
use Rattle.ild_data.specs.Data.{Data, Items, no_items, Members, no_members, member, members_of, members_list, items_of}
use Rattle.ild_data.specs.Key.{same_text, value_at, IsBelow, Rises}
use Rattle.ild_data.proofs.Lists.{members_list-members_of}
use Rattle.ild_schema.specs.declared.def.EnumMember.{EnumMember}
use Rattle.ild_schema.specs.declared.def.Member.{Member}
use Rattle.ild_schema.specs.declared.def.Field.{Field}
use Rattle.ild_schema.specs.declared.number.Slot.{Slot}
use Rattle.ild_schema.specs.declared.row.Row.{Row}
use Rattle.ild_schema.specs.Value.{Value, null, boolean, integer, text, bytes, link, list, map, struct, union, enum, unit, any, hamt, Values, no_values, value, Pairs, no_pairs, pair, pairs_list, Optionals, no_optionals, absent, present}
use Rattle.ild_splice_changes.proofs.Maps.{own_text, other_is, same_entries}
use Rattle.ild_schema.specs.Slots.{form_of, plainly}
use Rattle.ild_typed.specs.Slots.{element_of, fields_of, member_at, enum_member_at, slot_of}
use Rattle.ild_typed.specs.Strings.{in_key_order, map_data}
use Rattle.ild_value_meaning.specs.Names.{slot_named}
use Rattle.ild_typed.specs.Shown.{shown, shown_values, shown_pairs, shown_fields}
use Rattle.ild_value_meaning.specs.Meant.{Meant, AreMeant, EntriesMeant, FieldsMeant}
use Rattle.ild_value_meaning.specs.Names.{are_named}
use Rattle.ild_value_meaning.proofs.TypedByParts.{to_parts}
use Rattle.ild_value_meaning.proofs.ByParts.{ByParts, AreByParts, EntriesByParts, FieldsByParts}
use Rattle.ild_value_meaning.specs.Risen.{MapsRise, AllRise, EntriesRise, FieldsRise}
use Rattle.ild_value_meaning.proofs.Told.{AreProper, HasProperFields, told}
use Rattle.ild_value_meaning.specs.MeantLaws.{ShownIsMeant}
use Rattle.ild_typed.proofs.Entries.{value_sorted}
use Rattle.ild_typed.proofs.Rising.{rises_sorted}
use Rattle.ild_typed.proofs.Treed.{all_sorted}

-- entries that rise stay as they are
pub risen-same : (ms : List (List ℕ × Data)) → Rises ms → in_key_order ms ≡ ms
risen-same ms up = same_entries (in_key_order ms) ms (rises_sorted ms) up (λ k. value_sorted k ms)

-- names
abbrev IsName : List Field → List ℕ → Type 0
IsName fs k = is_some (slot_named k fs) ≡ true

name_more : (k : List ℕ) (f : Field) (fs : List Field) (b : Bool) → IsName fs k → is_some (cond b (Some f.slot) (slot_named k fs)) ≡ true
name_more k f fs true h = refl
name_more k f fs false h = h

names_more : (f : Field) (fs gs : List Field) → AllByRecursion (λ g. IsName fs g.name) gs → AllByRecursion (λ (g : Field). IsName (f ∷ fs) g.name) gs
names_more f fs [] h = tt
names_more f fs (g ∷ gs) h = (name_more g.name f fs (same_text g.name f.name) h.0, names_more f fs gs h.1)

own_names : (fs : List Field) → AllByRecursion (λ (g : Field). IsName fs g.name) fs
own_names [] = tt
own_names (f ∷ fs) = (ap (λ b. is_some (cond b (Some f.slot) (slot_named f.name fs))) (own_text f.name), names_more f fs fs (own_names fs))

all_named : (fs : List Field) (ms : List (List ℕ × Data)) → AllByRecursion (λ m. IsName fs m.0) ms → are_named fs (members_of ms) ≡ true
all_named fs [] h = refl
all_named fs (m ∷ ms) h = λ i. h.0 i && all_named fs ms h.1 i

not_that : (k n : List ℕ) (s : Slot) (o : Option Slot) (b : Bool) → b ≡ same_text k n → cond b (Some s) o ≡ None → (k ≡ n → ⊥) × (o ≡ None)
not_that k n s o true e h = absurd (none-some s (sym h))
not_that k n s o false e h = (λ p. differ (e ∙ (ap (same_text k) (sym p) ∙ own_text k)), h)
  where
    differ : false ≡ true → ⊥
    differ h = absurd cc

module _ (rows : List Row) where
  named_fields : (all fs : List Field) (os : Optionals) → AllByRecursion (λ (g : Field). IsName all g.name) fs → AllByRecursion (λ (m : List ℕ × Data). IsName all m.0) (shown_fields rows fs os)
  named_fields all fs no_optionals h = tt
  named_fields all [] (absent os) h = tt
  named_fields all (f ∷ fs) (absent os) h = named_fields all fs os h.1
  named_fields all [] (present v os) h = tt
  named_fields all (f ∷ fs) (present v os) h = (h.0, named_fields all fs os h.1)

  -- what is at the name of each field
  abbrev Shows : List Field → Optionals → List (List ℕ × Data) → Type 0
  Shows fs no_optionals xs = Unit {0}
  Shows [] (absent os) xs = Unit {0}
  Shows (f ∷ fs) (absent os) xs = (value_at f.name xs ≡ None) × Shows fs os xs
  Shows [] (present v os) xs = Unit {0}
  Shows (f ∷ fs) (present v os) xs = (value_at f.name xs ≡ Some (shown rows f.slot v)) × Shows fs os xs

  shows_more : (n : List ℕ) (d : Data) (fs : List Field) (os : Optionals) (xs : List (List ℕ × Data)) → slot_named n fs ≡ None → Shows fs os xs → Shows fs os ((n, d) ∷ xs)
  shows_more n d fs no_optionals xs h s = tt
  shows_more n d [] (absent os) xs h s = tt
  shows_more n d (f ∷ fs) (absent os) xs h s =
      let a = not_that n f.name f.slot (slot_named n fs) (same_text n f.name) refl h in
      let b : same_text f.name n ≡ false = other_is f.name n (λ p. a.0 (sym p)) in
      (ap (λ c. cond c (Some d) (value_at f.name xs)) b ∙ s.0, shows_more n d fs os xs a.1 s.1)
  shows_more n d [] (present v os) xs h s = tt
  shows_more n d (f ∷ fs) (present v os) xs h s =
      let a = not_that n f.name f.slot (slot_named n fs) (same_text n f.name) refl h in
      let b : same_text f.name n ≡ false = other_is f.name n (λ p. a.0 (sym p)) in
      (ap (λ c. cond c (Some d) (value_at f.name xs)) b ∙ s.0, shows_more n d fs os xs a.1 s.1)

  not_shown : (n : List ℕ) (fs : List Field) (os : Optionals) → slot_named n fs ≡ None → value_at n (shown_fields rows fs os) ≡ None
  not_shown n fs no_optionals h = refl
  not_shown n [] (absent os) h = refl
  not_shown n (f ∷ fs) (absent os) h = not_shown n fs os (not_that n f.name f.slot (slot_named n fs) (same_text n f.name) refl h).1
  not_shown n [] (present v os) h = refl
  not_shown n (f ∷ fs) (present v os) h =
      let a = not_that n f.name f.slot (slot_named n fs) (same_text n f.name) refl h in
      ap (λ c. cond c (Some (shown rows f.slot v)) (value_at n (shown_fields rows fs os))) (other_is n f.name a.0) ∙ not_shown n fs os a.1

  shows : (fs : List Field) (os : Optionals) → AreProper fs → Shows fs os (shown_fields rows fs os)
  shows fs no_optionals h = tt
  shows [] (absent os) h = tt
  shows (f ∷ fs) (absent os) h = (not_shown f.name fs os h.0, shows fs os h.2)
  shows [] (present v os) h = tt
  shows (f ∷ fs) (present v os) h =
      (ap (λ c. cond c (Some (shown rows f.slot v)) (value_at f.name (shown_fields rows fs os))) (own_text f.name), shows_more f.name (shown rows f.slot v) fs os (shown_fields rows fs os) h.0 (shows fs os h.2))

  -- the keys of entries are those of the value
  below_shown : (k : List ℕ) (slot : Slot) (ps : Pairs) → IsBelow k (pairs_list ps) → IsBelow k (shown_pairs rows slot ps)
  below_shown k slot no_pairs h = tt
  below_shown k slot (pair l v ps) h = h

  rises_shown : (slot : Slot) (ps : Pairs) → Rises (pairs_list ps) → Rises (shown_pairs rows slot ps)
  rises_shown slot no_pairs h = tt
  rises_shown slot (pair k v ps) h = (below_shown k slot ps h.0, rises_shown slot ps h.1)

module _ (rows : List Row) (is_key : ℕ → List ℕ → Bool) (proper : HasProperFields rows) where
  mutual
    meant_shown : (v : Value) (slot : Slot) → ByParts rows is_key slot v → MapsRise v → Meant rows is_key slot (shown rows slot v) v
    meant_shown null slot h up = (h, refl)
    meant_shown (boolean b) slot h up = (h, refl)
    meant_shown (integer n) slot h up = (h.0, refl)
    meant_shown (text s) slot h up = (h.0, refl)
    meant_shown (bytes s) slot h up = (h.0, refl)
    meant_shown (link s) slot h up = (h.0, h.1, refl)
    meant_shown (list vs) slot h up =
        let e : shown rows slot (list vs) ≡ D.list (shown_values rows h.0 vs) = ap (λ f. D.list (option_map_or (λ u. shown_values rows u vs) (element_of f) no_items)) h.2 in
        (h.0, h.1, shown_values rows h.0 vs, h.2, e, elements_meant vs h.0 h.3 up)
    meant_shown (map ps) slot h up =
        let x = shown_pairs rows h.2 ps in
        let e : shown rows slot (map ps) ≡ D.map (members_of (in_key_order x)) = ap (λ f. map_data (option_map_or (λ u. in_key_order (shown_pairs rows u ps)) (element_of f) [])) h.5 in (
          h.0,
          h.1,
          h.2,
          h.3,
          h.4,
          members_of (in_key_order x),
          h.5,
          e,
          subst (λ ms. EntriesMeant rows is_key (h.0).0 h.2 (members_of ms) ps) (sym (risen-same x (rises_shown rows h.2 ps up.0))) (entries_meant ps (h.0).0 h.2 h.6 up.1),
        )
    meant_shown (struct os) slot h up =
        let fs = (h.0).fields in
        let x = shown_fields rows fs os in
        let same : (k : List ℕ) → value_at k (members_list (members_of (in_key_order x))) ≡ value_at k x = λ k. ap (value_at k) (members_list-members_of (in_key_order x)) ∙ value_sorted k x in
        let e : D.map (members_of (in_key_order (shown_fields rows (fields_of (form_of rows slot)) os))) ≡ D.map (members_of (in_key_order x)) = ap (λ gs. D.map (members_of (in_key_order (shown_fields rows gs os)))) (ap fields_of h.1) in (
          h.0,
          members_of (in_key_order x),
          h.1,
          e,
          all_named fs (in_key_order x) (all_sorted (λ m. IsName fs m.0) x (named_fields rows fs fs os (own_names fs))),
          fields_meant os fs (members_of (in_key_order x)) x same (proper slot h.0 h.1) (shows rows fs os (proper slot h.0 h.1)) h.2 up,
        )
    meant_shown (union n v) slot h up =
        let e : shown rows slot (union n v) ≡ D.map (member (h.1).name (shown rows (plainly (h.1).ty) v) no_members) =
        ap (λ f. map_data (option_map_or (λ (m : Member). (m.name, shown rows (slot_of m) v) ∷ []) (member_at f n) [])) h.2
        ∙ ap (λ o. map_data (option_map_or (λ (m : Member). (m.name, shown rows (slot_of m) v) ∷ []) o [])) h.3 in
        (h.0, h.1, shown rows (plainly (h.1).ty) v, h.2, h.3, e, meant_shown v (plainly (h.1).ty) h.4 up)
    meant_shown (enum n) slot h up =
        let e : shown rows slot (enum n) ≡ D.text (h.1).name =
        ap (λ f. D.text (option_map_or (λ (m : EnumMember). m.name) (enum_member_at f n) [])) h.2 ∙ ap (λ o. D.text (option_map_or (λ (m : EnumMember). m.name) o [])) h.3 in
        (h.0, h.1, h.2, h.3, e)
    meant_shown unit slot h up = (h.0, h.1, refl)
    meant_shown (any d) slot h up = (h.0, refl, h.1)
    meant_shown (hamt d) slot h up = absurd up

    elements_meant : (vs : Values) (slot : Slot) → AreByParts rows is_key slot vs → AllRise vs → AreMeant rows is_key slot (shown_values rows slot vs) vs
    elements_meant no_values slot h up = refl
    elements_meant (value v vs) slot h up = (shown rows slot v, shown_values rows slot vs, refl, meant_shown v slot h.0 up.0, elements_meant vs slot h.1 up.1)

    entries_meant : (ps : Pairs) (key : ℕ) (slot : Slot) → EntriesByParts rows is_key key slot ps → EntriesRise ps → EntriesMeant rows is_key key slot (members_of (shown_pairs rows slot ps)) ps
    entries_meant no_pairs key slot h up = refl
    entries_meant (pair k v ps) key slot h up =
        (shown rows slot v, members_of (shown_pairs rows slot ps), refl, h.0, meant_shown v slot h.1 up.0, entries_meant ps key slot h.2 up.1)

    fields_meant : (os : Optionals) (fs : List Field) (ms : Members) (xs : List (List ℕ × Data)) → ((k : List ℕ) → value_at k (members_list ms) ≡ value_at k xs) → AreProper fs → Shows rows fs os xs
        → FieldsByParts rows is_key fs os → FieldsRise os → FieldsMeant rows is_key fs ms os
    fields_meant no_optionals [] ms xs same p s h up = tt
    fields_meant no_optionals (f ∷ fs) ms xs same p s h up = h
    fields_meant (absent os) [] ms xs same p s h up = h
    fields_meant (absent os) (f ∷ fs) ms xs same p s h up =
        (record { missing = same f.name ∙ s.0; optional = h.0; plain = p.1 h.0 }, fields_meant os fs ms xs same p.2 s.1 h.1 up)
    fields_meant (present v os) [] ms xs same p s h up = h
    fields_meant (present v os) (f ∷ fs) ms xs same p s h up =
        (inl (shown rows f.slot v, same f.name ∙ s.0, meant_shown v f.slot h.0 up.0), fields_meant os fs ms xs same p.2 s.1 h.1 up.1)

pub shown_is_meant : ShownIsMeant
shown_is_meant rows is_key schema keys slot v h up = meant_shown rows is_key (told rows schema).proper v slot (to_parts rows is_key keys v slot h) up
