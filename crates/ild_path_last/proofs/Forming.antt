-- The change of a part by the form of the holder's type.
use Rattle.std.proofs.Common.{◌≡◌, ℕ, suc, List, [], ◌∷◌, Bool, true, false, cond, ◌&&◌, slice_get, Option, Some, None, refl, sym, ◌∙◌, ap, subst}
use Rattle.std.specs.Prelude.{is_some, option_and_then}
use Rattle.std.proofs.lemmas.Option.{same_Some, none-some}
use Rattle.ild_splice_changes.specs.Differences.{at_item, at_key}
use Rattle.ild_data.proofs.Options.{map_some}
use Rattle.ild_data.specs.Data as T
use Rattle.ild_data.specs.Data.{Data}
use Rattle.ild_data.specs.Key.{same_text, value_at}
use Rattle.ild_data.proofs.Lists.{members_list-members_of}
use Rattle.ild_path_changes.proofs.Fields.{risen-at, written-at}
use Rattle.ild_path_changes.proofs.Lifting.{written_is, none_there}
use Rattle.ild_path_changes.specs.LastLift.{map_last, struct_last}
use Rattle.ild_path_changes.specs.Pairs.{at_pair}
use Rattle.ild_path_changes.specs.Places.{field_data, field_named, field_place, left_out, place_of, written, written_before}
use Rattle.ild_schema.specs.Clear.{AreNamesApart, ClearStruct}
use Rattle.ild_schema.specs.Marks.{field_text}
use Rattle.ild_schema.specs.declared.def.Field.{Field}
use Rattle.ild_schema.specs.declared.def.MapForm.{MapForm}
use Rattle.ild_schema.specs.declared.def.MapForm.TheVariants as M
use Rattle.ild_schema.specs.declared.def.StructForm.{StructForm}
use Rattle.ild_schema.specs.declared.def.StructForm.TheVariants as S
use Rattle.ild_typed.specs.Composed.{map_form, struct_form}
use Rattle.ild_typed.specs.Fields.{are_absent, field_entries, tuple_items}
use Rattle.ild_typed.specs.Hamt.{alone}
use Rattle.ild_typed.specs.Layer as L
use Rattle.ild_typed.specs.Strings.{in_key_order, listpairs, map_data, members_in}
use Rattle.ild_path_last.specs.Change.{located}
use Rattle.ild_path_last.specs.declared.change.LastChange.{LastChange}

-- the value at a key of a map in a block
in_map : (k : List ℕ) (es : List (List ℕ × Data)) → option_and_then (value_at k) (members_in (map_data es)) ≡ value_at k es
in_map k es = ap (value_at k) (members_list-members_of es)

module _ (Holds : Data → Type 0) (s : List ℕ) (es : List (List ℕ × Data)) (t : Data) (d x u : Option Data) (r : LastChange) (holds : Holds t) where
  pub map_entry : (form : MapForm) → M.Map ≡ form → map_form alone form (L.map es) ≡ Some t → ((y : Data) → Holds y → at_key s (option_and_then (value_at s) (members_in y)) d ≡ located r x u)
      → map_last form s (place_of s es) (value_at s es) d u ≡ located r x u
  map_entry M.Map is made given = ap (λ o. at_key s o d) (sym (in_map s es)) ∙ given (map_data es) (subst Holds (sym (same_Some (map_data es) t made)) holds)
  map_entry M.ListPairs is made given = absurd cc
  map_entry (M.StringPairs inner entry) is made given = absurd cc
  map_entry (M.Hamt shape) is made given = absurd cc

  pub map_pair : (form : MapForm) → M.ListPairs ≡ form → map_form alone form (L.map es) ≡ Some t → (Holds (listpairs es) → at_pair (place_of s es) s (value_at s es) d ≡ located r x u)
      → map_last form s (place_of s es) (value_at s es) d u ≡ located r x u
  map_pair M.ListPairs is made given = given (subst Holds (sym (same_Some (listpairs es) t made)) holds)
  map_pair M.Map is made given = absurd cc
  map_pair (M.StringPairs inner entry) is made given = absurd cc
  map_pair (M.Hamt shape) is made given = absurd cc

-- ---- structs

absent_at : (a b : Bool) (o : Option Data) (rest : Bool) → (a && rest) ≡ true → (rest ≡ true → o ≡ None) → cond b None o ≡ None
absent_at a true o rest h more = refl
absent_at true false o rest h more = more h
absent_at false false o rest h more = absurd cc

none_left : (xs : List Data) (b : Bool) → cond b (Some []) None ≡ Some xs → (xs ≡ []) × (b ≡ true)
none_left xs true h = (sym (same_Some [] xs h), refl)
none_left xs false h = absurd (none-some xs h)

nothing_in : (xs : List Data) (n : ℕ) → xs ≡ [] → slice_get xs n ≡ None
nothing_in [] n h = refl
nothing_in (x ∷ xs) n h = absurd cc

item_at : (k : List ℕ) (f : Field) (fs : List Field) (d : Data) (os : List (Option Data)) (ys : List Data) (b : Bool) → slice_get ys (field_place k fs) ≡ field_data k fs os
    → slice_get (d ∷ ys) (cond b 0 (suc (field_place k fs))) ≡ cond b (Some d) (field_data k fs os)
item_at k f fs d os ys true h = refl
item_at k f fs d os ys false h = h

-- the item of a field in a tuple
pub tuple_there : (k : List ℕ) (fs : List Field) (ds : List (Option Data)) (xs : List Data) → tuple_items fs ds ≡ Some xs → slice_get xs (field_place k fs) ≡ field_data k fs ds
tuple_there k [] [] xs h = nothing_in xs 0 (sym (same_Some [] xs h))
tuple_there k [] (o ∷ os) xs h = absurd (none-some xs h)
tuple_there k (f ∷ fs) [] xs h = absurd (none-some xs h)
tuple_there k (f ∷ fs) (Some d ∷ os) xs h =
    let y = map_some (λ ys. d ∷ ys) (tuple_items fs os) xs h in
    ap (λ zs. slice_get zs (field_place k (f ∷ fs))) (sym y.2) ∙ item_at k f fs d os y.0 (same_text k f.name) (tuple_there k fs os y.0 y.1)
tuple_there k (f ∷ fs) (None ∷ os) xs h =
    let n = none_left xs (are_absent (f ∷ fs) (None ∷ os)) h in
    nothing_in xs (field_place k (f ∷ fs)) n.0 ∙ sym (none_there k (f ∷ fs) (None ∷ os) n.1)

module _ (Holds : Data → Type 0) (fs : List Field) (ds : List (Option Data)) (t : Data) (k : List ℕ) (g : Field) (d x u : Option Data) (r : LastChange) (holds : Holds t) (named : field_named k fs ≡ Some g) where
  pub field_entry : (form : StructForm) (name : List ℕ) → S.Map ≡ form → name ≡ field_text g → struct_form form fs ds ≡ Some t → ClearStruct form fs
      → ((y : Data) → Holds y → at_key name (option_and_then (value_at name) (members_in y)) (written left_out g d) ≡ located r x u) → struct_last form k fs ds g (field_data k fs ds) d u ≡ located r x u
  field_entry S.Map name is called made clear given =
      let y = map_some (λ es. map_data (in_key_order es)) (field_entries fs ds) t made in
      let w = written_is fs ds y.0 y.1 in
      let value : option_and_then (value_at name) (members_in (map_data (in_key_order y.0))) ≡ written left_out g (field_data k fs ds) =
      in_map name (in_key_order y.0) ∙ risen-at y.0 name ∙ (λ i. value_at (called i) (w.same i)) ∙ written-at left_out k fs ds g clear.apart named in
      (λ i. at_key (sym called i) (sym value i) (written left_out g d)) ∙ given (map_data (in_key_order y.0)) (subst Holds (sym y.2) holds)
  field_entry S.Tuple name is called made clear given = absurd cc
  field_entry S.ListPairs name is called made clear given = absurd cc
  field_entry (S.StringPairs inner entry) name is called made clear given = absurd cc
  field_entry (S.StringJoin delim) name is called made clear given = absurd cc

  pub field_item : (form : StructForm) (number : ℕ) → S.Tuple ≡ form → number ≡ field_place k fs → struct_form form fs ds ≡ Some t
      → ((xs : List Data) → Holds (T.list (T.items_of xs)) → (c : Option Data) → is_some (slice_get xs number) ≡ is_some c → at_item number c d ≡ located r x u) → struct_last form k fs ds g (field_data k fs ds) d u ≡ located r x u
  field_item S.Tuple number is place made given =
      let y = map_some (λ xs. T.list (T.items_of xs)) (tuple_items fs ds) t made in
      ap (λ n. at_item n (field_data k fs ds) d) (sym place)
      ∙ given y.0 (subst Holds (sym y.2) holds) (field_data k fs ds) (ap (λ n. is_some (slice_get y.0 n)) place ∙ ap is_some (tuple_there k fs ds y.0 y.1))
  field_item S.Map number is place made given = absurd cc
  field_item S.ListPairs number is place made given = absurd cc
  field_item (S.StringPairs inner entry) number is place made given = absurd cc
  field_item (S.StringJoin delim) number is place made given = absurd cc

  pub field_pair : (form : StructForm) → S.ListPairs ≡ form → struct_form form fs ds ≡ Some t → ClearStruct form fs
      → ((es : List (List ℕ × Data)) → field_entries fs ds ≡ Some es → Holds (listpairs es) → AreNamesApart fs
      → at_pair (written_before left_out k fs ds) (field_text g) (written left_out g (field_data k fs ds)) (written left_out g d) ≡ located r x u) → struct_last form k fs ds g (field_data k fs ds) d u ≡ located r x u
  field_pair S.ListPairs is made clear given =
      let y = map_some listpairs (field_entries fs ds) t made in
      given y.0 y.1 (subst Holds (sym y.2) holds) clear.apart
  field_pair S.Map is made clear given = absurd cc
  field_pair S.Tuple is made clear given = absurd cc
  field_pair (S.StringPairs inner entry) is made clear given = absurd cc
  field_pair (S.StringJoin delim) is made clear given = absurd cc
