-- Lists of pairs, and the items of tuples.
use Rattle.std.proofs.Common.{◌≡◌, ℕ, zero, suc, List, [], ◌∷◌, length, map, true, false, cond, ◌&&◌, not, Option, Some, None, option_map, refl, sym, ◌∙◌, ap, arith}
use Rattle.std.specs.Prelude.{nat_lt, nat_eq, drop}
use Rattle.std.specs.List.{list_any}
use Rattle.std.proofs.lemmas.Option.{same_Some, none-some}
use Rattle.std.proofs.lemmas.Bool.{eqb-true, and_parts, or_parts, or_from}
use Rattle.ild_data.specs.Data as T
use Rattle.ild_data.specs.Data.{Data}
use Rattle.ild_data.proofs.Lists.{items_list-items_of}
use Rattle.ild_schema.specs.declared.def.KindWord.TheVariants as K
use Rattle.ild_schema.specs.declared.def.Field.{Field}
use Rattle.ild_schema.specs.declared.def.StructForm.TheVariants as S
use Rattle.ild_typed.specs.Kinds.{kind_word_of}
use Rattle.ild_schema.specs.DataKinds.{same_kind}
use Rattle.ild_typed.specs.Fields.{are_absent, tuple_items}
use Rattle.ild_typed.specs.Strings.{pair_data, listpairs}
use Rattle.ild_typed.specs.Named.{is_text, has_name, is_pair, pair_names, pair_entries, is_two, has_odd_pair, has_odd_count, names}
use Rattle.ild_typed.specs.StructWhy.{names_in, entries_in, misses_items}
use Rattle.ild_typed.proofs.Basics.{map_from, true_from}
use Rattle.ild_typed.proofs.Cleans.{not_false, never}
use Rattle.ild_typed.proofs.CleanFields.{lt_suc, lt_zero, zero_lt}

-- ---- what pairs show

names_of_pairs : (es : List (List ℕ × Data)) → pair_names (map pair_data es) ≡ names es
names_of_pairs [] = refl
names_of_pairs (e ∷ es) = ap (λ ks. e.0 ∷ ks) (names_of_pairs es)

entries_of_pairs : (es : List (List ℕ × Data)) → pair_entries (map pair_data es) ≡ es
entries_of_pairs [] = refl
entries_of_pairs (e ∷ es) = ap (λ xs. e ∷ xs) (entries_of_pairs es)

all_pairs : (es : List (List ℕ × Data)) → list_any (λ d. not (is_pair d)) (map pair_data es) ≡ false
all_pairs [] = refl
all_pairs (e ∷ es) = all_pairs es

all_two : (es : List (List ℕ × Data)) → list_any (λ d. not (is_two d)) (map pair_data es) ≡ false
all_two [] = refl
all_two (e ∷ es) = all_two es

pub pairs_names : (es : List (List ℕ × Data)) → names_in S.ListPairs (listpairs es) ≡ Some (names es)
pairs_names es = ap Some (ap pair_names (items_list-items_of (map pair_data es)) ∙ names_of_pairs es)

pub pairs_entries : (es : List (List ℕ × Data)) → entries_in S.ListPairs (listpairs es) ≡ Some es
pairs_entries es = ap Some (ap pair_entries (items_list-items_of (map pair_data es)) ∙ entries_of_pairs es)

pub pairs_even : (es : List (List ℕ × Data)) → has_odd_pair (listpairs es) ≡ false
pairs_even es = ap (list_any (λ d. not (is_pair d))) (items_list-items_of (map pair_data es)) ∙ all_pairs es

pub pairs_count : (es : List (List ℕ × Data)) → has_odd_count (listpairs es) ≡ false
pairs_count es = ap (list_any (λ d. not (is_two d))) (items_list-items_of (map pair_data es)) ∙ all_two es

-- ---- data that are pairs

record Pair (d : Data) : Type 0 where
  entry : List ℕ × Data
  is : d ≡ pair_data entry

text_name : (x c : Data) → is_text x ≡ true → Pair (T.list (T.item x (T.item c T.no_items)))
text_name (T.text k) c p = record { entry = (k, c); is = refl }
text_name x c p = absurd cc

list_pair : (ds : T.Items) → has_name (T.items_list ds) ≡ true → nat_eq (length (T.items_list ds)) 2 ≡ true → Pair (T.list ds)
list_pair T.no_items p q = absurd (omega (arith, eqb-true 0 2 q))
list_pair (T.item x T.no_items) p q = absurd (omega (arith, eqb-true 1 2 q))
list_pair (T.item x (T.item c T.no_items)) p q = text_name x c p
list_pair (T.item x (T.item c (T.item y ys))) p q =
    absurd (omega (arith, eqb-true (length (T.items_list (T.item x (T.item c (T.item y ys))))) 2 q))

as_pair : (d : Data) → is_pair d ≡ true → is_two d ≡ true → Pair d
as_pair (T.list ds) p q = list_pair ds p q
as_pair d p q = absurd cc

pub record PairsOf (t : Data) : Type 0 where
  pub entries : List (List ℕ × Data)
  pub is : t ≡ listpairs entries

as_pairs : (ds : T.Items) → list_any (λ d. not (is_pair d)) (T.items_list ds) ≡ false → list_any (λ d. not (is_two d)) (T.items_list ds) ≡ false → PairsOf (T.list ds)
as_pairs T.no_items p q = record { entries = []; is = refl }
as_pairs (T.item d ds) p q =
    let x = or_parts (not (is_pair d)) (list_any (λ c. not (is_pair c)) (T.items_list ds)) p in
    let y = or_parts (not (is_two d)) (list_any (λ c. not (is_two c)) (T.items_list ds)) q in
    let first = as_pair d (not_false (is_pair d) x.0) (not_false (is_two d) y.0) in
    let rest = as_pairs ds x.1 y.1 in
    record {
      entries = first.entry ∷ rest.entries;
      is = ap (λ c. T.list (T.item c ds)) first.is ∙ ap (λ xs. T.list (T.item (pair_data first.entry) xs)) (ap items_in_list rest.is);
    }
  where
    items_in_list : Data → T.Items
    items_in_list (T.list xs) = xs
    items_in_list c = T.no_items

pub pairs_of_data : (t : Data) → same_kind K.List (kind_word_of t) ≡ true → has_odd_pair t ≡ false → has_odd_count t ≡ false → PairsOf t
pairs_of_data (T.list ds) k p q = as_pairs ds p q
pairs_of_data t k p q = absurd cc

-- ---- tuples

pub tuple_fine : (fs : List Field) (os : List (Option Data)) (ds : List Data) → tuple_items fs os ≡ Some ds → misses_items fs ds ≡ false
tuple_fine [] [] ds e = ap (misses_items []) (sym (same_Some [] ds e))
tuple_fine [] (o ∷ os) ds e = absurd (none-some ds e)
tuple_fine (f ∷ fs) [] ds e = absurd (none-some ds e)
tuple_fine (f ∷ fs) (Some d ∷ os) ds e =
    let x = map_from (λ xs. d ∷ xs) (tuple_items fs os) ds e in
    let rest = or_parts (nat_lt (length fs) (length x.item)) (list_any (λ (g : Field). not g.optional) (drop (length x.item) fs)) (tuple_fine fs os x.item x.there) in
    ap (misses_items (f ∷ fs)) (sym (same_Some (d ∷ x.item) ds x.made))
    ∙ or_from (nat_lt (suc (length fs)) (suc (length x.item))) (list_any (λ (g : Field). not g.optional) (drop (length x.item) fs)) (lt_suc (length fs) (length x.item) ∙ rest.0) rest.1
tuple_fine (f ∷ fs) (None ∷ os) ds e =
    let x = true_from (are_absent (f ∷ fs) (None ∷ os)) [] ds e in
    ap (misses_items (f ∷ fs)) (sym x.1)
    ∙ or_from (nat_lt (length (f ∷ fs)) 0) (list_any (λ (g : Field). not g.optional) (f ∷ fs)) (lt_zero (length (f ∷ fs))) (all_optional (f ∷ fs) (None ∷ os) x.0)
  where
    all_optional : (gs : List Field) (ps : List (Option Data)) → are_absent gs ps ≡ true → list_any (λ (g : Field). not g.optional) gs ≡ false
    all_optional [] ps h = refl
    all_optional (g ∷ gs) [] h = absurd cc
    all_optional (g ∷ gs) (Some d ∷ ps) h = absurd cc
    all_optional (g ∷ gs) (None ∷ ps) h =
        let y = and_parts g.optional (are_absent gs ps) h in
        or_from (not g.optional) (list_any (λ (k : Field). not k.optional) gs) (ap not y.0) (all_optional gs ps y.1)

pub record TupleOf (fs : List Field) (ds : List Data) : Type 0 where
  pub fields : List (Option Data)
  pub there : tuple_items fs fields ≡ Some ds

abbrev none_of_them : List Field → List (Option Data)
none_of_them [] = []
none_of_them (f ∷ fs) = None ∷ none_of_them fs

absent_there : (fs : List Field) → list_any (λ (g : Field). not g.optional) fs ≡ false → are_absent fs (none_of_them fs) ≡ true
absent_there [] e = refl
absent_there (f ∷ fs) e =
    let x = or_parts (not f.optional) (list_any (λ (g : Field). not g.optional) fs) e in
    ap (λ b. b && are_absent fs (none_of_them fs)) (not_false f.optional x.0) ∙ absent_there fs x.1

pub tuple_for : (fs : List Field) (ds : List Data) → misses_items fs ds ≡ false → TupleOf fs ds
tuple_for [] [] e = record { fields = []; there = refl }
tuple_for [] (d ∷ ds) e =
    let x = or_parts (nat_lt zero (suc (length ds))) (list_any (λ (g : Field). not g.optional) (drop (suc (length ds)) [])) e in
    absurd (never (sym (zero_lt (length ds)) ∙ x.0))
tuple_for (f ∷ fs) [] e =
    let x = or_parts (nat_lt (length (f ∷ fs)) 0) (list_any (λ (g : Field). not g.optional) (f ∷ fs)) e in
    record { fields = none_of_them (f ∷ fs); there = ap (λ b. cond b (Some []) None) (absent_there (f ∷ fs) x.1) }
tuple_for (f ∷ fs) (d ∷ ds) e =
    let x = or_parts (nat_lt (suc (length fs)) (suc (length ds))) (list_any (λ (g : Field). not g.optional) (drop (length ds) fs)) e in
    let rest = tuple_for fs ds (or_from (nat_lt (length fs) (length ds)) (list_any (λ (g : Field). not g.optional) (drop (length ds) fs)) (sym (lt_suc (length fs) (length ds)) ∙ x.0) x.1) in
    record { fields = Some d ∷ rest.fields; there = ap (option_map (λ xs. d ∷ xs)) rest.there }
