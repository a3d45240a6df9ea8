-- A list in another order has the same pairs.
use Rattle.std.proofs.Common.{◌≡◌, ℕ, ◌+◌, ◌<◌, arith, T, Bool, true, false, cond, not, ◌&&◌, List, [], ◌∷◌, length, slice_get, get_or, Option, Some, None, is_some, refl, sym, ap, ◌∙◌, subst, IsPermutation, Contains}
use Rattle.std.specs.List.{IsDistinct, AllByRecursion}
use Rattle.std.specs.Map.{lookup, keys_of}
use Rattle.std.specs.Cmp.{IsEquivalence}
use Rattle.std.specs.Ordering.{eq_by_cmp, is_lt, is_eq, ordering_reverse}
use Rattle.std.specs.declared.cmp.Ordering.{Ordering}
use Rattle.std.specs.declared.cmp.Ordering.TheVariants.{Less, Equal, Greater}
use Rattle.std.specs.List.Sorted.{IsStrictlySortedBy, IsSortedByKey}
use Rattle.std.specs.FinMap.{is_sorted}
use Rattle.std.specs.FinMap.Entries.{below_all}
use Rattle.std.proofs.lemmas.List.{length-map, get_or-map}
use Rattle.std.specs.FinMap.{find}
use Rattle.std.proofs.lemmas.Cmp.{eq_by_cmp_equiv}
use Rattle.std.proofs.lemmas.Map.Entries.{place_from_lookup, lookup_from_place}
use Rattle.std.proofs.lemmas.Map.Keys.{IsDistinct-IsPermutation, IsDistinct-head, IsDistinct-tail, sorted_head, sorted_tail, sorted_from_all_adjacent, apart_from_distinct}
use Rattle.std.proofs.lemmas.Map.{NonePasses, lookup-none, none_passes_from_lookup}
use Rattle.std.proofs.lemmas.Bool.{and_parts}
use Rattle.std.proofs.lemmas.List.Sorted.{IsPermutation-map, IsPermutation-sym, Contains-permutation}
use Rattle.std.proofs.lemmas.Option.{slice_get-get_or, get_or_from_slice_get, slice_get_within}
use Rattle.ild_data.specs.Data.{Data, null}
use Rattle.ild_data.specs.ByteOrder.{bytewise, in_byte_order, IsInOrder, no_key_twice}
use Rattle.ild_hamt_trie.proofs.Parts.{total, same_key, same_by_find, in_order-sorted, find-sorted}

laws : IsEquivalence (eq_by_cmp bytewise)
laws = eq_by_cmp_equiv total

find_lookup : (q : List ℕ) (es : List (List ℕ × Data)) → find bytewise q es ≡ lookup (eq_by_cmp bytewise q) es
find_lookup q [] = refl
find_lookup q (e ∷ es) = ap (λ o. cond (eq_by_cmp bytewise q e.0) (Some e.1) o) (find_lookup q es)

kept : (q : List ℕ) (v : Data) (es fs : List (List ℕ × Data)) → IsPermutation es fs → IsDistinct (eq_by_cmp bytewise) (keys_of fs) → find bytewise q es ≡ Some v → find bytewise q fs ≡ Some v
kept q v es fs moved apart is =
    let place = place_from_lookup (eq_by_cmp bytewise q) es v (sym (find_lookup q es) ∙ is) in
    let here : Contains es (place.1, v) = (place.0, slice_get_within es place.0 (place.1, v) place.2, get_or_from_slice_get es place.0 (place.1, v) (place.1, v) place.2) in
    let there = Contains-permutation es fs (place.1, v) moved here in
    let at : slice_get fs there.0 ≡ Some (place.1, v) = slice_get-get_or fs there.0 (place.1, v) there.1 ∙ ap Some there.2 in
    find_lookup q fs ∙ ap (λ k. lookup (eq_by_cmp bytewise k) fs) (same_key q place.1 place.3) ∙ lookup_from_place laws fs there.0 place.1 v apart at

same_either : (a b : Option Data) → ((v : Data) → a ≡ Some v → b ≡ Some v) → ((v : Data) → b ≡ Some v → a ≡ Some v) → a ≡ b
same_either None None f g = refl
same_either (Some x) b f g = sym (f x refl)
same_either None (Some y) f g = g y refl

pub none_from : (o : Option Data) → not (is_some o) ≡ true → o ≡ None
none_from None e = refl
none_from (Some x) e = absurd cc

keys_pass : (x : List ℕ) (es : List (List ℕ × Data)) → NonePasses (eq_by_cmp bytewise x) es → AllByRecursion (λ y. eq_by_cmp bytewise x y ≡ false) (keys_of es)
keys_pass x [] h = tt
keys_pass x (e ∷ es) h = (h.0, keys_pass x es h.1)

pass_keys : (x : List ℕ) (es : List (List ℕ × Data)) → AllByRecursion (λ y. eq_by_cmp bytewise x y ≡ false) (keys_of es) → NonePasses (eq_by_cmp bytewise x) es
pass_keys x [] h = tt
pass_keys x (e ∷ es) h = (h.0, pass_keys x es h.1)

distinct_keys : (es : List (List ℕ × Data)) → no_key_twice es ≡ true → IsDistinct (eq_by_cmp bytewise) (keys_of es)
unfolding IsDistinct
distinct_keys [] h = tt
distinct_keys (e ∷ es) h =
    let parts = and_parts (not (is_some (find bytewise e.0 es))) (no_key_twice es) h in
    (keys_pass e.0 es (none_passes_from_lookup (eq_by_cmp bytewise e.0) es (sym (find_lookup e.0 es) ∙ none_from (find bytewise e.0 es) parts.0)), distinct_keys es parts.1)

from_distinct : (es : List (List ℕ × Data)) → IsDistinct (eq_by_cmp bytewise) (keys_of es) → no_key_twice es ≡ true
from_distinct [] h = refl
from_distinct (e ∷ es) h =
    let none : find bytewise e.0 es ≡ None = find_lookup e.0 es ∙ lookup-none (eq_by_cmp bytewise e.0) es (pass_keys e.0 es (IsDistinct-head (eq_by_cmp bytewise) e.0 (keys_of es) h)) in
    rw none (from_distinct es (IsDistinct-tail (eq_by_cmp bytewise) e.0 (keys_of es) h))

pub find-permutation : (es fs : List (List ℕ × Data)) → IsPermutation es fs → no_key_twice es ≡ true → (no_key_twice fs ≡ true) × ((q : List ℕ) → find bytewise q es ≡ find bytewise q fs)
find-permutation es fs moved one =
    let apart = distinct_keys es one in
    let still = IsDistinct-IsPermutation (eq_by_cmp bytewise) laws.symm (keys_of es) (keys_of fs) (IsPermutation-map (λ e. e.0) es fs moved) apart in
    (from_distinct fs still, λ q. same_either (find bytewise q es) (find bytewise q fs) (λ v. kept q v es fs moved still) (λ v. kept q v fs es (IsPermutation-sym es fs moved) apart))

-- a sort of pairs gives them in order
pub sorted-permutation : (es fs : List (List ℕ × Data)) → IsPermutation es fs → no_key_twice es ≡ true → IsInOrder fs → in_byte_order es ≡ fs
sorted-permutation es fs moved one order =
    same_by_find _ _ (in_order-sorted es) order (λ q. find-sorted q es ∙ (find-permutation es fs moved one).1 q)

below_from : (x : List ℕ) (es : List (List ℕ × Data)) → AllByRecursion (λ y. bytewise x y ≡ Less) (keys_of es) → T (below_all bytewise x es)
below_from x [] h = tt
below_from x (e ∷ es) h = let rest = below_from x es h.1 in subst (λ (o : Ordering). T (is_lt o && below_all bytewise x es)) (sym h.0) rest

pub in_order-from_strict : (es : List (List ℕ × Data)) → IsStrictlySortedBy bytewise (keys_of es) → IsInOrder es
in_order-from_strict [] h = tt
in_order-from_strict (e ∷ es) h =
    both_T (below_all bytewise e.0 es) (is_sorted bytewise es) (below_from e.0 es (sorted_head bytewise e.0 (keys_of es) h)) (in_order-from_strict es (sorted_tail bytewise e.0 (keys_of es) h))
  where
    both_T : (a b : Bool) → T a → T b → T (a && b)
    both_T true b p q = q
    both_T false b p q = p

strictly : (a b : List ℕ) → is_lt (bytewise b a) ≡ false → eq_by_cmp bytewise a b ≡ false → bytewise a b ≡ Less
strictly a b not_less apart = by_answer (bytewise a b) refl
  where
    by_answer : (o : Ordering) → bytewise a b ≡ o → bytewise a b ≡ Less
    by_answer Less e = e
    by_answer Equal e = let same : eq_by_cmp bytewise a b ≡ true = ap is_eq e in absurd cc
    by_answer Greater e = let less : is_lt (bytewise b a) ≡ true = ap is_lt (total.antisymm b a ∙ ap ordering_reverse e) in absurd cc

pub in_order-from_sort : (es : List (List ℕ × Data)) → no_key_twice es ≡ true → IsSortedByKey (λ e. e.0) bytewise es → IsInOrder es
in_order-from_sort es one up =
    in_order-from_strict es (sorted_from_all_adjacent total (keys_of es) [] (λ k lt.
    let inside : k + 1 < length es = omega (arith, length-map es (λ (e : List ℕ × Data). e.0)) in
    let first : get_or (keys_of es) k [] ≡ (get_or es k ([], null)).0 = get_or-map (λ (e : List ℕ × Data). e.0) es k ([], null) [] (omega arith) in
    let next : get_or (keys_of es) (k + 1) [] ≡ (get_or es (k + 1) ([], null)).0 = get_or-map (λ (e : List ℕ × Data). e.0) es (k + 1) ([], null) [] inside in
    strictly (get_or (keys_of es) k []) (get_or (keys_of es) (k + 1) [])
    ((λ i. is_lt (bytewise (next i) (first i))) ∙ up k ([], null) (omega arith) inside)
    (apart_from_distinct (eq_by_cmp bytewise) (keys_of es) k (k + 1) [] (distinct_keys es one) (omega arith) lt)))
