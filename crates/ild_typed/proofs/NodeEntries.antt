-- What is read as an entry or a bucket of a node is one, and what is one is read.
use Rattle.std.specs.List.{AllByRecursion}
use Rattle.std.proofs.Common.{◌≡◌, ℕ, Bool, true, false, cond, ◌&&◌, nat_le, nat_lt, T, List, [], ◌∷◌, length, map, Option, Some, None, option_map, option_and_then, refl, sym, ap, ◌∙◌, subst, arith}
use Rattle.std.specs.Prelude.{IsUtf8}
use Rattle.std.specs.Ordering.{is_lt}
use Rattle.std.specs.declared.cmp.Ordering.{Ordering}
use Rattle.std.specs.declared.cmp.Ordering.TheVariants.{Less, Equal, Greater}
use Rattle.std.specs.FinMap.{is_sorted}
use Rattle.std.specs.FinMap.Entries.{below_all}
use Rattle.std.specs.Str.{is_utf8}
use Rattle.std.proofs.lemmas.Bool.{and_parts, and_from, leb-true, ltb-true, le-leb, lt-ltb}
use Rattle.std.proofs.lemmas.List.{length-map}
use Rattle.std.proofs.lemmas.Str.{is_utf8-from_IsUtf8, IsUtf8-from_is_utf8}
use Rattle.ild_data.specs.Data.{Data, bytes, list, Items, no_items, item, items_of, items_list}
use Rattle.ild_data.proofs.Lists.{items_by_list, length-items}
use Rattle.ild_data.specs.declared.hamt_shape.HamtShape.{HamtShape}
use Rattle.ild_data.specs.ByteOrder.{bytewise}
use Rattle.ild_data.specs.Trie.{entry_data}
use Rattle.ild_hamt_trie.proofs.Parts.{total}
use Rattle.ild_data.specs.Trie.{bucket}
use Rattle.ild_typed.specs.Node.{IsSlot}
use Rattle.ild_typed.specs.NodeReading.{text_in, key_in, pair_in, entry_in, entry_of_pair, rises, goes_on, are_entries, bucket_fits}

-- ---- one entry

pub text-read : (k : List ℕ) → IsUtf8 k → text_in k ≡ Some k
text-read k is = rw (is_utf8-from_IsUtf8 k is) refl

text-taken_by : (b : Bool) (k r : List ℕ) → cond b (Some k) None ≡ Some r → (b ≡ true) × (k ≡ r)
text-taken_by true k r is = (refl, cc)
text-taken_by false k r is = absurd cc

pub text-taken : (k r : List ℕ) → text_in k ≡ Some r → (k ≡ r) × IsUtf8 r
text-taken k r is =
    let parts = text-taken_by (is_utf8 k) k r is in
    (parts.1, subst (λ (s : List ℕ). IsUtf8 s) parts.1 (IsUtf8-from_is_utf8 k parts.0))

pub entry-read : (e : List ℕ × Data) → IsUtf8 e.0 → entry_in (entry_data e) ≡ Some e
entry-read e is = ap (option_map (λ k. (k, e.1))) (text-read e.0 is)

keyed : (o : Option (List ℕ)) (k : List ℕ) (v : Data) (e : List ℕ × Data) → o ≡ text_in k → option_map (λ r. (r, v)) o ≡ Some e → (list (items_of (bytes k ∷ v ∷ [])) ≡ entry_data e) × IsUtf8 e.0
keyed None k v e read is = absurd cc
keyed (Some r) k v e read is =
    let parts = text-taken k r (sym read) in
    let keys : r ≡ e.0 = cc in
    let values : v ≡ e.1 = cc in
    (λ i. list (items_of (bytes ((parts.0 ∙ keys) i) ∷ values i ∷ [])), subst (λ (s : List ℕ). IsUtf8 s) keys parts.1)

entry-of : (a v : Data) (e : List ℕ × Data) → option_map (λ r. (r, v)) (key_in a) ≡ Some e → (list (items_of (a ∷ v ∷ [])) ≡ entry_data e) × IsUtf8 e.0
entry-of (bytes k) v e is = keyed (text_in k) k v e refl is
entry-of a v e is = absurd cc

pub pair-taken : (t : Data) (x : Data × Data) → pair_in t ≡ Some x → t ≡ list (items_of (x.0 ∷ x.1 ∷ []))
pair-taken (list (item a (item b no_items))) x is =
    let same : ◌≡◌ {A = Data × Data} (a, b) x = cc in
    λ i. list (items_of ((same i).0 ∷ (same i).1 ∷ []))
pair-taken t x is = absurd cc

entry-by : (t : Data) (o : Option (Data × Data)) (e : List ℕ × Data) → o ≡ pair_in t → option_and_then entry_of_pair o ≡ Some e → (t ≡ entry_data e) × IsUtf8 e.0
entry-by t None e read is = absurd cc
entry-by t (Some x) e read is =
    let parts = entry-of x.0 x.1 e is in
    (pair-taken t x (sym read) ∙ parts.0, parts.1)

pub entry-taken : (t : Data) (e : List ℕ × Data) → entry_in t ≡ Some e → (t ≡ entry_data e) × IsUtf8 e.0
entry-taken t e is = entry-by t (pair_in t) e refl is

-- ---- entries that rise

abbrev pub above_all : Option (List ℕ) → List (List ℕ × Data) → Bool
above_all None es = true
above_all (Some last) es = below_all bytewise last es

pub less : (o : Ordering) → is_lt o ≡ true → o ≡ Less
less Less e = refl
less Equal e = absurd cc
less Greater e = absurd cc

pub T_of : (b : Bool) → b ≡ true → T b
T_of true e = tt
T_of false e = absurd cc

pub true_of : (b : Bool) → T b → b ≡ true
true_of true e = refl
true_of false e = absurd e

below-less : (x y : List ℕ) (es : List (List ℕ × Data)) → is_lt (bytewise x y) ≡ true → below_all bytewise y es ≡ true → below_all bytewise x es ≡ true
below-less x y [] lt all = refl
below-less x y (e ∷ es) lt all =
    let parts = and_parts (is_lt (bytewise y e.0)) (below_all bytewise y es) all in
    and_from (is_lt (bytewise x e.0)) (below_all bytewise x es)
    (ap is_lt (total.trans x y e.0 (less _ lt) (less _ parts.0)))
    (below-less x y es lt parts.1)

above-first : (last : Option (List ℕ)) (k : List ℕ) (es : List (List ℕ × Data)) → rises last k ≡ true → below_all bytewise k es ≡ true → (v : Data) → above_all last ((k, v) ∷ es) ≡ true
above-first None k es lt all v = refl
above-first (Some last) k es lt all v = and_from (is_lt (bytewise last k)) (below_all bytewise last es) lt (below-less last k es lt all)

rises-first : (last : Option (List ℕ)) (e : List ℕ × Data) (es : List (List ℕ × Data)) → above_all last (e ∷ es) ≡ true → rises last e.0 ≡ true
rises-first None e es all = refl
rises-first (Some last) e es all = (and_parts (is_lt (bytewise last e.0)) (below_all bytewise last es) all).0

-- the entries that items are
pub record EntriesOf (ds : Items) (last : Option (List ℕ)) : Type 0 where
  pub es : List (List ℕ × Data)
  pub is : items_list ds ≡ map entry_data es
  pub above : above_all last es ≡ true
  pub order : is_sorted bytewise es ≡ true
  pub texts : AllByRecursion (λ e. IsUtf8 e.0) es

goes-taken : (d : Data) (ds : Items) (last : Option (List ℕ)) (o : Option (List ℕ × Data)) → o ≡ entry_in d → goes_on last o (are_entries ds) ≡ true
    → ((k : List ℕ) → are_entries ds (Some k) ≡ true → EntriesOf ds (Some k)) → EntriesOf (item d ds) last
goes-taken d ds last None read is more = absurd cc
goes-taken d ds last (Some e) read is more =
    let parts = and_parts (rises last e.0) (are_entries ds (Some e.0)) is in
    let rest = more e.0 parts.1 in
    let first = entry-taken d e (sym read) in
    record {
      es = e ∷ rest.es;
      is = λ i. first.0 i ∷ rest.is i;
      above = above-first last e.0 rest.es parts.0 rest.above e.1;
      order = and_from (below_all bytewise e.0 rest.es) (is_sorted bytewise rest.es) rest.above rest.order;
      texts = (first.1, rest.texts);
    }

pub entries-taken : (ds : Items) (last : Option (List ℕ)) → are_entries ds last ≡ true → EntriesOf ds last
entries-taken no_items None is = record { es = []; is = refl; above = refl; order = refl; texts = tt }
entries-taken no_items (Some last) is = record { es = []; is = refl; above = refl; order = refl; texts = tt }
entries-taken (item d ds) last is = goes-taken d ds last (entry_in d) refl is (λ k more. entries-taken ds (Some k) more)

pub entries-read : (es : List (List ℕ × Data)) (last : Option (List ℕ)) → above_all last es ≡ true → is_sorted bytewise es ≡ true → AllByRecursion (λ e. IsUtf8 e.0) es → are_entries (items_of (map entry_data es)) last ≡ true
entries-read [] last above order texts = refl
entries-read (e ∷ es) last above order texts =
    let parts = and_parts (below_all bytewise e.0 es) (is_sorted bytewise es) order in
    ap (λ o. goes_on last o (are_entries (items_of (map entry_data es)))) (entry-read e texts.0)
    ∙ and_from (rises last e.0) (are_entries (items_of (map entry_data es)) (Some e.0)) (rises-first last e es above) (entries-read es (Some e.0) parts.0 parts.1 texts.1)

-- ---- buckets

pub record BucketOf (p : HamtShape) (t : Data) : Type 0 where
  pub es : List (List ℕ × Data)
  pub is : t ≡ list (items_of (map entry_data es))
  pub form : IsSlot p (bucket es)

bucket_of : (p : HamtShape) (ds : Items) → nat_lt 0 (length (items_list ds)) ≡ true → nat_le (length (items_list ds)) p.bucket ≡ true → EntriesOf ds None → BucketOf p (list ds)
bucket_of p ds some few of =
    let long : length (items_list ds) ≡ length of.es = ap length of.is ∙ length-map of.es entry_data in
    record {
      es = of.es;
      is = ap list (items_by_list ds (map entry_data of.es) of.is);
      form = (T_of _ of.order, omega (arith, ltb-true 0 (length (items_list ds)) some), omega (arith, leb-true (length (items_list ds)) p.bucket few), of.texts);
    }

pub bucket-taken : (p : HamtShape) (t : Data) → bucket_fits p.bucket t ≡ true → BucketOf p t
bucket-taken p (list ds) is =
    let count = and_parts (nat_lt 0 (length (items_list ds)) && nat_le (length (items_list ds)) p.bucket) (are_entries ds None) is in
    let bounds = and_parts (nat_lt 0 (length (items_list ds))) (nat_le (length (items_list ds)) p.bucket) count.0 in
    bucket_of p ds bounds.0 bounds.1 (entries-taken ds None count.1)
bucket-taken p t is = absurd cc

pub bucket-read : (p : HamtShape) (es : List (List ℕ × Data)) → IsSlot p (bucket es) → bucket_fits p.bucket (list (items_of (map entry_data es))) ≡ true
bucket-read p es is =
    let long : length (items_list (items_of (map entry_data es))) ≡ length es = length-items (map entry_data es) ∙ length-map es entry_data in
    and_from _ _
    (and_from _ _ (lt-ltb 0 (length (items_list (items_of (map entry_data es)))) (let s = is.1 in omega arith)) (le-leb (length (items_list (items_of (map entry_data es)))) p.bucket (let f = is.2 in omega arith)))
    (entries-read es None refl (true_of _ is.0) is.3)
