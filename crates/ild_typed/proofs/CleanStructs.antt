-- Data are a struct's layer exactly where no cause holds of them, form by form.
use Rattle.std.proofs.Common.{◌≡◌, ℕ, suc, List, [], ◌∷◌, length, map, Bool, true, false, cond, ◌&&◌, not, Option, Some, None, option_map, refl, sym, ◌∙◌, ap, subst, arith}
use Rattle.std.specs.Prelude.{nat_eq, option_and_then}
use Rattle.std.proofs.lemmas.Option.{same_Some}
use Rattle.std.proofs.lemmas.Bool.{eq-eqb, eqb-true, and_parts}
use Rattle.ild_data.specs.Data as T
use Rattle.ild_data.specs.Data.{Data}
use Rattle.ild_data.proofs.Lists.{items_list-items_of, items_of-items_list, members_list-members_of, members_of-members_list}
use Rattle.ild_schema.specs.declared.def.KindWord.TheVariants as K
use Rattle.ild_schema.specs.declared.def.StructForm.{StructForm}
use Rattle.ild_schema.specs.declared.def.StructForm.TheVariants as S
use Rattle.ild_schema.specs.declared.def.Field.{Field}
use Rattle.ild_typed.specs.Texts.{join, join_pairs}
use Rattle.ild_typed.specs.Kinds.{kind_word_of}
use Rattle.ild_schema.specs.DataKinds.{same_kind, struct_kind}
use Rattle.ild_typed.specs.Fields.{field_entries, tuple_items, all_items}
use Rattle.ild_typed.specs.Strings.{text_in, texts_in, text_pairs, in_key_order, map_data, listpairs, stringpairs, stringjoin, cons_both}
use Rattle.ild_typed.specs.Composed.{struct_form}
use Rattle.ild_schema.specs.Clear.{ClearStruct, IsGiven}
use Rattle.ild_schema.specs.Delims.{HasDelims}
use Rattle.ild_typed.specs.WhyLaws.{KeysRise}
use Rattle.ild_typed.specs.Cuts.{parted, pairs_in, is_split, is_split_pairs}
use Rattle.ild_typed.specs.Named.{where_some, names, has_twice, split_entries, text_entries, is_unsplit}
use Rattle.ild_typed.specs.StructWhy.{names_in, has_stranger, lacks_field, is_out_of_order, writes_implicit, misses_items, struct_kind_why, struct_name_why, struct_missing, struct_count, struct_order, struct_repeat, struct_implicit, is_unjoined, struct_delimiter}
use Rattle.ild_typed.proofs.Basics.{map_from, then_from}
use Rattle.ild_typed.proofs.Entries.{both_from, only_text_data}
use Rattle.ild_typed.proofs.Structs.{all_count}
use Rattle.ild_typed.proofs.Cleans.{not_false}
use Rattle.ild_typed.proofs.CleanFields.{Fine, fine_of, fields_for}
use Rattle.ild_typed.proofs.CleanPairs.{pairs_names, pairs_entries, pairs_even, pairs_count, pairs_of_data, tuple_fine, tuple_for}
use Rattle.ild_typed.proofs.CleanMaps.{map_fine, map_for}
use Rattle.ild_typed.proofs.CleanTexts.{parted_join, pairs_join, gives_it, given_by}

pub record StructClean (form : StructForm) (fs : List Field) (t : Data) : Type 0 where
  pub kind : struct_kind_why form t ≡ false
  pub name : struct_name_why form fs t ≡ false
  pub missing : struct_missing form fs t ≡ false
  pub count : struct_count form fs t ≡ false
  pub order : struct_order form fs t ≡ false
  pub repeat : struct_repeat form t ≡ false
  pub implicit : struct_implicit form fs t ≡ false
  pub delimiter : struct_delimiter form fs t ≡ false

-- ---- pairs

listpairs_clean : (fs : List Field) (es : List (List ℕ × Data)) → Fine fs es → StructClean S.ListPairs fs (listpairs es)
listpairs_clean fs es fine = record {
  kind = pairs_even es;
  name = ap (where_some (has_stranger fs)) (pairs_names es) ∙ fine.known;
  missing = ap (where_some (lacks_field fs)) (pairs_names es) ∙ fine.whole;
  count = pairs_count es;
  order = ap (where_some (is_out_of_order fs)) (pairs_names es) ∙ fine.order;
  repeat = ap (where_some has_twice) (pairs_names es) ∙ fine.once;
  implicit = ap (where_some (writes_implicit fs)) (pairs_entries es) ∙ fine.needed;
  delimiter = refl;
}

listpairs_fine : (fs : List Field) (es : List (List ℕ × Data)) → StructClean S.ListPairs fs (listpairs es) → Fine fs es
listpairs_fine fs es c = record {
  known = sym (ap (where_some (has_stranger fs)) (pairs_names es)) ∙ c.name;
  whole = sym (ap (where_some (lacks_field fs)) (pairs_names es)) ∙ c.missing;
  order = sym (ap (where_some (is_out_of_order fs)) (pairs_names es)) ∙ c.order;
  once = sym (ap (where_some has_twice) (pairs_names es)) ∙ c.repeat;
  needed = sym (ap (where_some (writes_implicit fs)) (pairs_entries es)) ∙ c.implicit;
}

-- ---- pairs in a text

abbrev as_entries : List (List ℕ × List ℕ) → List (List ℕ × Data)
as_entries ps = map {B = List ℕ × Data} (λ p. (p.0, T.text p.1)) ps

pub pairs_are_texts : (es : List (List ℕ × Data)) (ps : List (List ℕ × List ℕ)) → text_pairs es ≡ Some ps → as_entries ps ≡ es
pairs_are_texts [] ps h = ap as_entries (sym (same_Some [] ps h))
pairs_are_texts (e ∷ es) ps h =
    let b = both_from (option_map {U = List ℕ × List ℕ} (λ s. (e.0, s)) (text_in e.1)) (text_pairs es) ps h in
    let x = map_from {B = List ℕ × List ℕ} (λ s. (e.0, s)) (text_in e.1) b.item b.first in
    let rest = pairs_are_texts es b.items b.rest in
    let value = only_text_data e.1 x.item x.there in
    ap as_entries (sym b.all) ∙ ap (λ p. (p.0, T.text p.1) ∷ as_entries b.items) (sym (same_Some (e.0, x.item) b.item x.made))
    ∙ (λ i. (e.0, sym value i) ∷ rest i)

pub texts_are_pairs : (ps : List (List ℕ × List ℕ)) → text_pairs (as_entries ps) ≡ Some ps
texts_are_pairs [] = refl
texts_are_pairs (p ∷ ps) = ap (cons_both (Some p)) (texts_are_pairs ps)

split_is : (inner entry s : List ℕ) (b : Bool) → is_split_pairs inner entry s ≡ b → split_entries inner entry (T.text s) ≡ cond b (Some (text_entries inner entry s)) None
split_is inner entry s b is = ap (λ c. cond c (Some (text_entries inner entry s)) None) is

-- the entries of a text of pairs, and that it has a split
pub record SplitOf (inner entry : List ℕ) (es : List (List ℕ × Data)) (t : Data) : Type 0 where
  pub entries : split_entries inner entry t ≡ Some es
  pub split : is_unsplit inner entry t ≡ false

pub split_of_pairs : (inner entry : List ℕ) → IsGiven inner → IsGiven entry → (es : List (List ℕ × Data)) (t : Data) → stringpairs inner entry es ≡ Some t → SplitOf inner entry es t
split_of_pairs inner entry given more es t h =
    let x = map_from T.text (option_and_then (join_pairs inner entry) (text_pairs es)) t h in
    let y = then_from (join_pairs inner entry) (text_pairs es) x.item x.there in
    let pairs : pairs_in inner entry x.item ≡ y.item = pairs_join inner entry given more y.item x.item y.made in
    let split : is_split_pairs inner entry x.item ≡ true = gives_it x.item (join_pairs inner entry (pairs_in inner entry x.item)) (ap (join_pairs inner entry) pairs ∙ y.made) in
    subst (SplitOf inner entry es) (same_Some (T.text x.item) t x.made)
    (record {
      entries = split_is inner entry x.item true split ∙ ap Some (ap as_entries pairs ∙ pairs_are_texts es y.item y.there);
      split = ap not split;
    })

pub record StringOf (inner entry : List ℕ) (t : Data) : Type 0 where
  pub entries : List (List ℕ × Data)
  pub there : stringpairs inner entry entries ≡ Some t
  pub shown : split_entries inner entry t ≡ Some entries

pub string_of_data : (inner entry : List ℕ) (t : Data) → same_kind K.Text (kind_word_of t) ≡ true → is_unsplit inner entry t ≡ false → StringOf inner entry t
string_of_data inner entry (T.text s) k u =
    let split : is_split_pairs inner entry s ≡ true = not_false (is_split_pairs inner entry s) u in
    record {
      entries = text_entries inner entry s;
      there = ap (λ o. option_map T.text (option_and_then (join_pairs inner entry) o)) (texts_are_pairs (pairs_in inner entry s))
          ∙ ap (option_map T.text) (given_by s (join_pairs inner entry (pairs_in inner entry s)) split);
      shown = split_is inner entry s true split;
    }
string_of_data inner entry t k u = absurd cc

-- ---- joined texts

abbrev as_texts : List (List ℕ) → List Data
as_texts ps = map T.text ps

texts_there : (ps : List (List ℕ)) → texts_in (as_texts ps) ≡ Some ps
texts_there [] = refl
texts_there (p ∷ ps) = ap (cons_both (Some p)) (texts_there ps)

pub texts_count : (ds : List Data) (ps : List (List ℕ)) → texts_in ds ≡ Some ps → length ps ≡ length ds
texts_count [] ps h = ap length (sym (same_Some [] ps h))
texts_count (d ∷ ds) ps h =
    let b = both_from (text_in d) (texts_in ds) ps h in
    ap length (sym b.all) ∙ ap suc (texts_count ds b.items b.rest)

record ItemsFor (fs : List Field) (ds : List Data) : Type 0 where
  fields : List (Option Data)
  there : all_items fs fields ≡ Some ds

items_for : (fs : List Field) (ds : List Data) → length ds ≡ length fs → ItemsFor fs ds
items_for [] [] n = record { fields = []; there = refl }
items_for [] (d ∷ ds) n = absurd (omega (arith, n))
items_for (f ∷ fs) [] n = absurd (omega (arith, n))
items_for (f ∷ fs) (d ∷ ds) n =
    let rest = items_for fs ds (omega (arith, n)) in
    record { fields = Some d ∷ rest.fields; there = ap (option_map (λ xs. d ∷ xs)) rest.there }

joined_fine : (delim : List ℕ) (fs : List Field) → HasDelims (S.StringJoin delim) fs → (ps : List (List ℕ)) (s : List ℕ) → length ps ≡ length fs → join delim ps ≡ Some s
    → is_unjoined delim (length fs) (T.text s) ≡ false
joined_fine delim [] given ps s n h = absurd given
joined_fine delim (f ∷ fs) given [] s n h = absurd (omega (arith, n))
joined_fine delim (f ∷ fs) given (p ∷ ps) s n h =
    let cuts : parted delim s ≡ p ∷ ps = parted_join delim given p ps s h in
    let split : is_split delim s ≡ true = gives_it s (join delim (parted delim s)) (ap (join delim) cuts ∙ h) in
    let many : nat_eq (length (parted delim s)) (length (f ∷ fs)) ≡ true = eq-eqb (length (parted delim s)) (length (f ∷ fs)) (ap length cuts ∙ n) in
    ap (λ b. not (b && nat_eq (length (parted delim s)) (length (f ∷ fs)))) split ∙ ap not many

-- ---- each form

pub struct_clean : (form : StructForm) (fs : List Field) → ClearStruct form fs → HasDelims form fs → (os : List (Option Data)) (t : Data) → struct_form form fs os ≡ Some t → StructClean form fs t
struct_clean S.Map fs clear delims os t h =
    let x = map_from (λ es. map_data (in_key_order es)) (field_entries fs os) t h in
    let fine = map_fine fs x.item (fine_of fs os x.item clear.apart x.there) in
    let back : T.members_list (T.members_of (in_key_order x.item)) ≡ in_key_order x.item = members_list-members_of (in_key_order x.item) in
    subst (StructClean S.Map fs) (same_Some (map_data (in_key_order x.item)) t x.made)
    (record {
      kind = refl;
      name = ap (λ ms. has_stranger fs (names ms)) back ∙ fine.known;
      missing = ap (λ ms. lacks_field fs (names ms)) back ∙ fine.whole;
      count = refl;
      order = refl;
      repeat = ap (λ ms. has_twice (names ms)) back ∙ fine.once;
      implicit = ap (writes_implicit fs) back ∙ fine.needed;
      delimiter = refl;
    })
struct_clean S.Tuple fs clear delims os t h =
    let x = map_from (λ ds. T.list (T.items_of ds)) (tuple_items fs os) t h in
    subst (StructClean S.Tuple fs) (same_Some (T.list (T.items_of x.item)) t x.made)
    (record {
      kind = refl;
      name = refl;
      missing = refl;
      count = ap (misses_items fs) (items_list-items_of x.item) ∙ tuple_fine fs os x.item x.there;
      order = refl;
      repeat = refl;
      implicit = refl;
      delimiter = refl;
    })
struct_clean S.ListPairs fs clear delims os t h =
    let x = map_from listpairs (field_entries fs os) t h in
    subst (StructClean S.ListPairs fs) (same_Some (listpairs x.item) t x.made) (listpairs_clean fs x.item (fine_of fs os x.item clear.apart x.there))
struct_clean (S.StringPairs inner entry) fs clear delims os t h =
    let x = then_from (stringpairs inner entry) (field_entries fs os) t h in
    let fine = fine_of fs os x.item clear.0.apart x.there in
    let split = split_of_pairs inner entry clear.1 delims x.item t x.made in
    let keys : names_in (S.StringPairs inner entry) t ≡ Some (names x.item) = ap (option_map names) split.entries in
    record {
      kind = refl;
      name = ap (where_some (has_stranger fs)) keys ∙ fine.known;
      missing = ap (where_some (lacks_field fs)) keys ∙ fine.whole;
      count = refl;
      order = ap (where_some (is_out_of_order fs)) keys ∙ fine.order;
      repeat = ap (where_some has_twice) keys ∙ fine.once;
      implicit = ap (where_some (writes_implicit fs)) split.entries ∙ fine.needed;
      delimiter = split.split;
    }
struct_clean (S.StringJoin delim) fs clear delims os t h =
    let x = then_from (stringjoin delim) (all_items fs os) t h in
    let y = map_from T.text (option_and_then (join delim) (texts_in x.item)) t x.made in
    let z = then_from (join delim) (texts_in x.item) y.item y.there in
    subst (StructClean (S.StringJoin delim) fs) (same_Some (T.text y.item) t y.made)
    (record {
      kind = refl;
      name = refl;
      missing = refl;
      count = refl;
      order = refl;
      repeat = refl;
      implicit = refl;
      delimiter = joined_fine delim fs delims z.item y.item (texts_count x.item z.item z.there ∙ all_count fs os x.item x.there) z.made;
    })

pub record StructFor (form : StructForm) (fs : List Field) (t : Data) : Type 0 where
  pub fields : List (Option Data)
  pub there : struct_form form fs fields ≡ Some t

pub struct_for : (form : StructForm) (fs : List Field) → ClearStruct form fs → HasDelims form fs → (t : Data) → KeysRise t → same_kind (struct_kind form) (kind_word_of t) ≡ true
    → StructClean form fs t → StructFor form fs t
struct_for S.Map fs clear delims (T.map ms) up k c =
    let x = map_for fs (T.members_list ms) up (record { known = c.name; whole = c.missing; once = c.repeat; needed = c.implicit }) in
    record {
      fields = x.fields;
      there = ap (option_map (λ es. map_data (in_key_order es))) x.there ∙ ap (λ es. Some (map_data es)) x.is ∙ ap (λ ns. Some (T.map ns)) (members_of-members_list ms);
    }
struct_for S.Map fs clear delims t up k c = absurd cc
struct_for S.Tuple fs clear delims (T.list ds) up k c =
    let x = tuple_for fs (T.items_list ds) c.count in
    record {
      fields = x.fields;
      there = ap (option_map (λ xs. T.list (T.items_of xs))) x.there ∙ ap (λ xs. Some (T.list xs)) (items_of-items_list ds);
    }
struct_for S.Tuple fs clear delims t up k c = absurd cc
struct_for S.ListPairs fs clear delims t up k c =
    let x = pairs_of_data t k c.kind c.count in
    let y = fields_for fs x.entries clear.apart (listpairs_fine fs x.entries (subst (StructClean S.ListPairs fs) x.is c)) in
    record { fields = y.fields; there = ap (option_map listpairs) y.there ∙ ap Some (sym x.is) }
struct_for (S.StringPairs inner entry) fs clear delims t up k c =
    let x = string_of_data inner entry t k c.delimiter in
    let keys : names_in (S.StringPairs inner entry) t ≡ Some (names x.entries) = ap (option_map names) x.shown in
    let y = fields_for fs x.entries clear.0.apart (record {
      known = sym (ap (where_some (has_stranger fs)) keys) ∙ c.name;
      whole = sym (ap (where_some (lacks_field fs)) keys) ∙ c.missing;
      order = sym (ap (where_some (is_out_of_order fs)) keys) ∙ c.order;
      once = sym (ap (where_some has_twice) keys) ∙ c.repeat;
      needed = sym (ap (where_some (writes_implicit fs)) x.shown) ∙ c.implicit;
    }) in
    record { fields = y.fields; there = ap (option_and_then (stringpairs inner entry)) y.there ∙ x.there }
struct_for (S.StringJoin delim) fs clear delims (T.text s) up k c =
    let h = and_parts (is_split delim s) (nat_eq (length (parted delim s)) (length fs)) (not_false (is_split delim s && nat_eq (length (parted delim s)) (length fs)) c.delimiter) in
    let many : length (parted delim s) ≡ length fs = eqb-true (length (parted delim s)) (length fs) h.1 in
    let x = items_for fs (as_texts (parted delim s)) (length_map (parted delim s) ∙ many) in
    record {
      fields = x.fields;
      there = ap (option_and_then (stringjoin delim)) x.there
          ∙ ap (λ o. option_map T.text (option_and_then (join delim) o)) (texts_there (parted delim s))
          ∙ ap (option_map T.text) (given_by s (join delim (parted delim s)) h.0);
    }
  where
    length_map : (ps : List (List ℕ)) → length (as_texts ps) ≡ length ps
    length_map [] = refl
    length_map (p ∷ ps) = ap suc (length_map ps)
struct_for (S.StringJoin delim) fs clear delims t up k c = absurd cc
