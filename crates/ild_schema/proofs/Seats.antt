-- Where a text stands among those of parts that rise, and what a part more at that place finds.
use Rattle.std.proofs.Common.{◌≡◌, ℕ, zero, suc, ◌<◌, ◌≤◌, ◌-◌, Bool, true, false, cond, List, [], ◌∷◌, Option, Some, None, option_map, Result, Ok, Err, length, map, get_or, insert, refl, ap, sym, ◌∙◌, subst, arith}
use Rattle.std.specs.Prelude.{bytes_eq}
use Rattle.std.specs.Cmp.Lexicographic.{same_text as text_same}
use Rattle.std.specs.List.Sorted.{IsBinarySearchResult, IsSearchInRange}
use Rattle.std.specs.Option.{option_or, unwrap_or}
use Rattle.std.specs.Ordering.{is_lt, ordering_index, ordering_reverse}
use Rattle.std.specs.declared.cmp.Ordering.{Ordering}
use Rattle.std.specs.declared.cmp.Ordering.TheVariants.{Less, Equal, Greater}
use Rattle.std.proofs.lemmas.List.{get_or-map, length-map}
use Rattle.std.proofs.Math.ListN.{get_or-map as map_default}
use Rattle.ild_data.proofs.Gets.{there_at}
use Rattle.ild_data.specs.Key.{key_cmp, key_less, put, value_at, Rises}
use Rattle.ild_data.proofs.Lists.{map-insert}
use Rattle.ild_data.proofs.Places.{Behind, IsPlace, put_insert, searched, value_none, value_some}
use Rattle.ild_data.proofs.Rising.{key_cmp_total, rises_put}
use Rattle.ild_schema.specs.Indexed.{HasPut, IsSeat, text_at, under_texts}
use Rattle.ild_schema.specs.Parts.{is_text}
use Rattle.ild_schema.proofs.Puts.{value_put}

-- ---- where a text stands

seat_of : (k : List ℕ) (ms : List (List ℕ × ℕ)) (r : Result ℕ ℕ) → IsPlace k ms r → IsSeat k ms r
seat_of k ms (Ok i) p = record { found = (p.found.0, value_some k ms i p.found.0 p.found.1 p.found.2); absent = tt }
seat_of k ms (Err i) p = record {
  found = tt;
  absent = (p.absent.0, value_none k ms i p.absent.0 p.absent.1 p.absent.2, λ v. sym (put_insert k v ms i p.absent.0 p.absent.1 p.absent.2));
}

module _ (f : ℕ → List ℕ × ℕ) (k : List ℕ) where
  found_under : (ns : List ℕ) (r : Result ℕ ℕ) → IsSearchInRange r (length ns) → IsBinarySearchResult (λ n. key_cmp (f n).0 k) ns r → IsBinarySearchResult (λ (p : List ℕ × ℕ). key_cmp p.0 k) (map f ns) r
  found_under ns (Ok i) lt h = λ e. ap (λ (q : List ℕ × ℕ). key_cmp q.0 k) (get_or-map f ns i 0 e lt) ∙ h 0
  found_under ns (Err i) le h = λ up.
      let low : i ≤ length ns = le in
      let parted = h (λ a b d low high.
      subst (λ (q : List ℕ × ℕ). ordering_index (key_cmp (f (get_or ns a d)).0 k) ≤ ordering_index (key_cmp q.0 k)) (map_default f ns b d)
      (subst (λ (q : List ℕ × ℕ). ordering_index (key_cmp q.0 k) ≤ ordering_index (key_cmp (get_or (map f ns) b (f d)).0 k)) (map_default f ns a d) (up a b (f d) low (omega (arith, high, length-map ns f))))) in (
        λ j e from lt. let below : j < i = lt in ap (λ (q : List ℕ × ℕ). key_cmp q.0 k) (get_or-map f ns j 0 e (omega (arith, below, low))) ∙ parted.0 j 0 from below,
        λ j e from lt. let below : j < length (map f ns) = lt in ap (λ (q : List ℕ × ℕ). key_cmp q.0 k) (get_or-map f ns j 0 e (omega (arith, below, length-map ns f))) ∙ parted.1 j 0 from (omega (arith, below, length-map ns f)),
      )

pub seat_searched : (ts : List (Option (List ℕ))) (k : List ℕ) (ns : List ℕ) (r : Result ℕ ℕ) → Rises (under_texts ts ns) → IsSearchInRange r (length ns) → IsBinarySearchResult (λ n. key_cmp (unwrap_or (text_at ts n) []) k) ns r → IsSeat k (under_texts ts ns) r
seat_searched ts k ns r up bound by =
    let f : ℕ → List ℕ × ℕ = λ n. (unwrap_or (text_at ts n) [], n) in
    seat_of k (map f ns) r (searched k (map f ns) up r (subst (IsSearchInRange r) (sym (length-map ns f)) bound) (found_under f k ns r bound by))

less_is : (o : Ordering) → is_lt o ≡ true → o ≡ Less
less_is Less h = refl
less_is Equal h = absurd cc
less_is Greater h = absurd cc

-- keys before one that is less are less
behind_last : (k : List ℕ) (ms : List (List ℕ × ℕ)) (i : ℕ) → Rises ms → length ms ≡ suc i → ((z : List ℕ × ℕ) → key_cmp (get_or ms i z).0 k ≡ Less) → Behind k ms (length ms)
behind_last k [] i up is last j z lt = absurd (omega (arith, is))
behind_last k (m ∷ []) zero up is last zero z lt = key_cmp_total.antisymm k m.0 ∙ ap ordering_reverse (last z)
behind_last k (m ∷ []) zero up is last (suc j) z lt = absurd (omega (arith, lt))
behind_last k (m ∷ []) (suc i) up is last j z lt = absurd (omega (arith, is))
behind_last k (m ∷ n ∷ ms) zero up is last j z lt = absurd (omega (arith, is))
behind_last k (m ∷ n ∷ ms) (suc i) up is last (suc j) z lt = behind_last k (n ∷ ms) i up.1 (omega (arith, is)) (λ w. last w) j z (omega (arith, lt))
behind_last k (m ∷ n ∷ ms) (suc i) up is last zero z lt =
    let next = behind_last k (n ∷ ms) i up.1 (omega (arith, is)) (λ w. last w) zero z (omega arith) in
    key_cmp_total.antisymm k m.0 ∙ ap ordering_reverse (key_cmp_total.trans m.0 n.0 k up.0 (key_cmp_total.antisymm n.0 k ∙ ap ordering_reverse next))

pub seat_last : (ts : List (Option (List ℕ))) (k : List ℕ) (ns : List ℕ) (t : List ℕ) → Rises (under_texts ts ns) → 0 < length ns → t ≡ unwrap_or (text_at ts (get_or ns (length ns - 1) 0)) [] → key_less t k ≡ true → IsSeat k (under_texts ts ns) (Err (length ns))
seat_last ts k ns t up some last less =
    let i = length ns - 1 in
    let count : length ns ≡ suc i = omega (arith, some) in
    let f : ℕ → List ℕ × ℕ = λ n. (unwrap_or (text_at ts n) [], n) in
    let within : i < length ns = omega (arith, count) in
    let same : length (map f ns) ≡ length ns = length-map ns f in
    let order : key_cmp (f (get_or ns i 0)).0 k ≡ Less = less_is (key_cmp (f (get_or ns i 0)).0 k) (ap (λ q. key_less q k) (sym last) ∙ less) in
    let behind = behind_last k (map f ns) i up (same ∙ count) (λ z. ap (λ (q : List ℕ × ℕ). key_cmp q.0 k) (get_or-map f ns i 0 z within) ∙ order) in
    subst (λ n. IsSeat k (map f ns) (Err n)) same
    (seat_of k (map f ns) (Err (length (map f ns))) (record { found = tt; absent = (omega arith, behind, λ j z low high. absurd (omega (arith, low, high))) }))

-- ---- a part more

or_none : {A : Type 0} (o : Option A) → option_or o None ≡ o
or_none None = refl
or_none (Some x) = refl

kept_by : (q k : List ℕ) (part : ℕ) (o : Option ℕ) (b : Bool) → b ≡ bytes_eq q k → (q ≡ k → (n : ℕ) × (o ≡ Some n)) → o ≡ option_or o (cond b (Some part) None)
kept_by q k part o true is h = let x = h (text_same q k is) in x.1 ∙ sym (ap (λ o. option_or o (Some part)) x.1)
kept_by q k part o false is h = sym (or_none o)

pub put_kept : (ts : List (Option (List ℕ))) (part : ℕ) (xs ns : List ℕ) (k : List ℕ) (r : Result ℕ ℕ) (i : ℕ) → Rises (under_texts ts ns) → text_at ts part ≡ Some k → xs ≡ ns → IsSeat k (under_texts ts xs) r → r ≡ Ok i → HasPut ts part ns ns
put_kept ts part xs ns k r i up some same found is =
    let ms = under_texts ts ns in
    let seat : IsSeat k ms (Ok i) = subst (IsSeat k ms) is (subst (λ ys. IsSeat k (under_texts ts ys) r) same found) in
    let x = there_at ms i seat.found.0 in
    record {
      rising = up;
      found = λ q. kept_by q k part (value_at q ms) (bytes_eq q k) refl (λ e. (x.0.1, ap (λ t. value_at t ms) e ∙ seat.found.1 ∙ ap (option_map (λ (p : List ℕ × ℕ). p.1)) x.1))
          ∙ sym (ap (λ o. option_or (value_at q ms) (cond (is_text q o) (Some part) None)) some);
    }

new_by : (q k : List ℕ) (part : ℕ) (o : Option ℕ) (b : Bool) → b ≡ bytes_eq q k → (q ≡ k → o ≡ None) → cond b (Some part) o ≡ option_or o (cond b (Some part) None)
new_by q k part o true is h = sym (ap (λ o. option_or o (Some part)) (h (text_same q k is)))
new_by q k part o false is h = sym (or_none o)

pub put_new : (ts : List (Option (List ℕ))) (part : ℕ) (xs ns new : List ℕ) (k : List ℕ) (r : Result ℕ ℕ) (i : ℕ) → Rises (under_texts ts ns) → text_at ts part ≡ Some k → xs ≡ ns → IsSeat k (under_texts ts xs) r → r ≡ Err i → new ≡ insert ns i part → HasPut ts part ns new
put_new ts part xs ns new k r i up some same found at is =
    let f : ℕ → List ℕ × ℕ = λ n. (unwrap_or (text_at ts n) [], n) in
    let ms = under_texts ts ns in
    let seat : IsSeat k ms (Err i) = subst (IsSeat k ms) at (subst (λ ys. IsSeat k (under_texts ts ys) r) same found) in
    let made : under_texts ts new ≡ put k part ms =
    ap (map f) is ∙ map-insert f ns i part ∙ ap (λ o. insert ms i (unwrap_or o [], part)) some ∙ seat.absent.2 part in
    record {
      rising = subst Rises (sym made) (rises_put k part ms up);
      found = λ q. ap (value_at q) made ∙ value_put q k part ms ∙ new_by q k part (value_at q ms) (bytes_eq q k) refl (λ e. ap (λ t. value_at t ms) e ∙ seat.absent.1)
          ∙ sym (ap (λ o. option_or (value_at q ms) (cond (is_text q o) (Some part) None)) some);
    }
