-- What is read of data is read of blank data: texts, bytes, the entries of a map and the kind; and how blank data are put together.
use Rattle.std.proofs.Common.{◌≡◌, ℕ, List, [], ◌∷◌, map, Option, Some, None, option_map, refl, sym, ap, ◌∙◌}
use Rattle.std.specs.Prelude.{option_and_then}
use Rattle.std.specs.Ordering.{match_ordering}
use Rattle.std.specs.declared.cmp.Ordering.{Ordering}
use Rattle.std.specs.declared.cmp.Ordering.TheVariants.{Less, Equal, Greater}
use Rattle.ild_data.specs.Data as T
use Rattle.ild_data.specs.Data.{Data}
use Rattle.ild_data.specs.Key.{key_cmp, put}
use Rattle.ild_data_alike.proofs.Lengths.{blank_length, blank_same}
use Rattle.ild_data_alike.specs.Blank.{blank, blank_items, blank_members, blank_link, blank_entry, blank_entries}
use Rattle.ild_typed.specs.Kinds.{kind_word_of}
use Rattle.ild_typed.specs.Strings.{text_in, bytes_in, members_in, cons_both, texts_in, text_pairs, in_key_order, map_data, pair_data, listpairs, stringpairs, stringjoin}
use Rattle.ild_typed.specs.Texts.{join, join_pairs}

-- ---- blank data are blank

pub link_twice : (s : List ℕ) → blank_link (blank_link s) ≡ blank_link s
link_twice s = blank_same (blank_link s) s (blank_length s)

mutual
  pub blank_twice : (d : Data) → blank (blank d) ≡ blank d
  blank_twice T.null = refl
  blank_twice (T.boolean b) = refl
  blank_twice (T.integer n) = refl
  blank_twice (T.text s) = refl
  blank_twice (T.bytes s) = refl
  blank_twice (T.list ds) = ap T.list (items_twice ds)
  blank_twice (T.map ms) = ap T.map (members_twice ms)
  blank_twice (T.link s) = ap T.link (link_twice s)

  items_twice : (ds : T.Items) → blank_items (blank_items ds) ≡ blank_items ds
  items_twice T.no_items = refl
  items_twice (T.item d ds) = ap (λ e. T.item e (blank_items (blank_items ds))) (blank_twice d) ∙ ap (T.item (blank d)) (items_twice ds)

  members_twice : (ms : T.Members) → blank_members (blank_members ms) ≡ blank_members ms
  members_twice T.no_members = refl
  members_twice (T.member k d ms) = ap (λ e. T.member k e (blank_members (blank_members ms))) (blank_twice d) ∙ ap (T.member k (blank d)) (members_twice ms)

-- ---- what is read

pub text_of : (d : Data) → text_in (blank d) ≡ text_in d
text_of T.null = refl
text_of (T.boolean b) = refl
text_of (T.integer n) = refl
text_of (T.text s) = refl
text_of (T.bytes s) = refl
text_of (T.list ds) = refl
text_of (T.map ms) = refl
text_of (T.link s) = refl

pub bytes_of : (d : Data) → bytes_in (blank d) ≡ bytes_in d
bytes_of T.null = refl
bytes_of (T.boolean b) = refl
bytes_of (T.integer n) = refl
bytes_of (T.text s) = refl
bytes_of (T.bytes s) = refl
bytes_of (T.list ds) = refl
bytes_of (T.map ms) = refl
bytes_of (T.link s) = refl

pub kind_of : (d : Data) → kind_word_of (blank d) ≡ kind_word_of d
kind_of T.null = refl
kind_of (T.boolean b) = refl
kind_of (T.integer n) = refl
kind_of (T.text s) = refl
kind_of (T.bytes s) = refl
kind_of (T.list ds) = refl
kind_of (T.map ms) = refl
kind_of (T.link s) = refl

pub members_listed : (ms : T.Members) → T.members_list (blank_members ms) ≡ blank_entries (T.members_list ms)
members_listed T.no_members = refl
members_listed (T.member k d ms) = ap (λ es. (k, blank d) ∷ es) (members_listed ms)

pub items_listed : (ds : T.Items) → T.items_list (blank_items ds) ≡ map blank (T.items_list ds)
items_listed T.no_items = refl
items_listed (T.item d ds) = ap (λ es. blank d ∷ es) (items_listed ds)

pub members_of : (d : Data) → members_in (blank d) ≡ option_map blank_entries (members_in d)
members_of T.null = refl
members_of (T.boolean b) = refl
members_of (T.integer n) = refl
members_of (T.text s) = refl
members_of (T.bytes s) = refl
members_of (T.list ds) = refl
members_of (T.map ms) = ap Some (members_listed ms)
members_of (T.link s) = refl

pub texts_of : (ds : List Data) → texts_in (map blank ds) ≡ texts_in ds
texts_of [] = refl
texts_of (d ∷ ds) = ap (λ o. cons_both o (texts_in (map blank ds))) (text_of d) ∙ ap (cons_both (text_in d)) (texts_of ds)

pub pairs_of : (es : List (List ℕ × Data)) → text_pairs (blank_entries es) ≡ text_pairs es
pairs_of [] = refl
pairs_of (e ∷ es) =
    ap (λ o. cons_both (option_map {U = List ℕ × List ℕ} (λ s. (e.0, s)) o) (text_pairs (blank_entries es))) (text_of e.1) ∙ ap (cons_both (option_map {U = List ℕ × List ℕ} (λ s. (e.0, s)) (text_in e.1))) (pairs_of es)

-- ---- what is put together

pub blank_items_of : (ds : List Data) → blank_items (T.items_of ds) ≡ T.items_of (map blank ds)
blank_items_of [] = refl
blank_items_of (d ∷ ds) = ap (T.item (blank d)) (blank_items_of ds)

pub blank_list : (ds : List Data) → blank (T.list (T.items_of ds)) ≡ T.list (T.items_of (map blank ds))
blank_list ds = ap T.list (blank_items_of ds)

blank_members_of : (es : List (List ℕ × Data)) → blank_members (T.members_of es) ≡ T.members_of (blank_entries es)
blank_members_of [] = refl
blank_members_of (e ∷ es) = ap (T.member e.0 (blank e.1)) (blank_members_of es)

pub blank_map : (es : List (List ℕ × Data)) → blank (map_data es) ≡ map_data (blank_entries es)
blank_map es = ap T.map (blank_members_of es)

pub blank_put : (k : List ℕ) (d : Data) (es : List (List ℕ × Data)) → blank_entries (put k d es) ≡ put k (blank d) (blank_entries es)
blank_put k d [] = refl
blank_put k d (e ∷ es) = by (key_cmp k e.0) (blank_put k d es) where
  by : (o : Ordering) → blank_entries (put k d es) ≡ put k (blank d) (blank_entries es)
      → blank_entries (match_ordering o ((k, d) ∷ e ∷ es) ((k, d) ∷ es) (e ∷ put k d es))
      ≡ match_ordering o ((k, blank d) ∷ blank_entry e ∷ blank_entries es) ((k, blank d) ∷ blank_entries es) (blank_entry e ∷ put k (blank d) (blank_entries es))
  by Less rest = refl
  by Equal rest = refl
  by Greater rest = ap (λ xs. blank_entry e ∷ xs) rest

pub blank_order : (es : List (List ℕ × Data)) → blank_entries (in_key_order es) ≡ in_key_order (blank_entries es)
blank_order [] = refl
blank_order (e ∷ es) = blank_put e.0 e.1 (in_key_order es) ∙ ap (put e.0 (blank e.1)) (blank_order es)

pair_items : (es : List (List ℕ × Data)) → blank_items (T.items_of (map pair_data es)) ≡ T.items_of (map pair_data (blank_entries es))
pair_items [] = refl
pair_items (e ∷ es) = ap (T.item (pair_data (blank_entry e))) (pair_items es)

pub blank_listpairs : (es : List (List ℕ × Data)) → blank (listpairs es) ≡ listpairs (blank_entries es)
blank_listpairs es = ap T.list (pair_items es)

blank_text : (o : Option (List ℕ)) → option_map blank (option_map T.text o) ≡ option_map T.text o
blank_text None = refl
blank_text (Some s) = refl

pub blank_stringpairs : (inner entry : List ℕ) (es : List (List ℕ × Data)) → option_map blank (stringpairs inner entry es) ≡ stringpairs inner entry (blank_entries es)
blank_stringpairs inner entry es = blank_text (option_and_then (join_pairs inner entry) (text_pairs es)) ∙ ap (λ o. option_map T.text (option_and_then (join_pairs inner entry) o)) (sym (pairs_of es))

pub blank_stringjoin : (delim : List ℕ) (ds : List Data) → option_map blank (stringjoin delim ds) ≡ stringjoin delim (map blank ds)
blank_stringjoin delim ds = blank_text (option_and_then (join delim) (texts_in ds)) ∙ ap (λ o. option_map T.text (option_and_then (join delim) o)) (sym (texts_of ds))
