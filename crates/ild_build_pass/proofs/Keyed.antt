-- The fields of a struct in the key order that the table keeps: those that are written stand as if each were put at its place.
use Rattle.std.proofs.Common.{◌≡◌, ℕ, zero, suc, ◌+◌, List, [], ◌∷◌, map, Bool, true, false, cond, Option, Some, None, option_map, slice_get, bytes_eq, refl, sym, ap, ◌∙◌, arith, add-one}
use Rattle.std.specs.Prelude.{not, option_and_then}
use Rattle.std.specs.List.{AllByRecursion, filter, position_from}
use Rattle.std.specs.Option.{option_map_or, unwrap_or}
use Rattle.std.specs.Cmp.Lexicographic.{same_text as text_same}
use Rattle.std.specs.declared.cmp.Ordering.TheVariants.{Less}
use Rattle.std.proofs.lemmas.Option.{slice_get-map}
use Rattle.ild_data.specs.Key.{key_cmp, same_text, value_at, IsBelow, Rises}
use Rattle.ild_data.proofs.Rising.{key_cmp_total, rises_put}
use Rattle.ild_schema.specs.declared.def.Field.{Field}
use Rattle.ild_schema.specs.Clear.{AreNamesApart}
use Rattle.ild_schema.specs.Indexed.{InKeyOrder, text_at, under_texts}
use Rattle.ild_schema.specs.Marks.{field_text}
use Rattle.ild_schema.specs.Parts.{is_text}
use Rattle.ild_schema.specs.Value.{Value}
use Rattle.ild_typed.proofs.Entries.{value_put}
use Rattle.ild_typed.proofs.Rising.{below_none, rising_same}
use Rattle.ild_build.specs.LeftOut.{is_left_out}
use Rattle.ild_build.specs.PartAt.{field_at}
use Rattle.ild_build_pass.specs.inside.Places.{in_order, is_written, name_at, named, places_from, texts_of, written_of}

-- ---- some of pairs that rise

pub below_behind : {V : Type 0} (k : List ℕ) (m : List ℕ × V) (ms : List (List ℕ × V)) → key_cmp k m.0 ≡ Less → IsBelow m.0 ms → IsBelow k ms
below_behind k m [] less below = tt
below_behind k m (n ∷ ms) less below = key_cmp_total.trans k m.0 n.0 less below

module _ {V : Type 0} (p : List ℕ × V → Bool) where
  pub below_some : (k : List ℕ) (ms : List (List ℕ × V)) → IsBelow k ms → Rises ms → IsBelow k (filter p ms)
  below_some k [] below up = tt
  below_some k (m ∷ ms) below up = by (p m) (below_some k ms (below_behind k m ms below up.0) up.1)
    where
      by : (b : Bool) → IsBelow k (filter p ms) → IsBelow k (cond b (m ∷ filter p ms) (filter p ms))
      by true rest = below
      by false rest = rest

  rises_some : (ms : List (List ℕ × V)) → Rises ms → Rises (filter p ms)
  rises_some [] up = tt
  rises_some (m ∷ ms) up = by (p m) (below_some m.0 ms up.0 up.1) (rises_some ms up.1)
    where
      by : (b : Bool) → IsBelow m.0 (filter p ms) → Rises (filter p ms) → Rises (cond b (m ∷ filter p ms) (filter p ms))
      by true below rest = (below, rest)
      by false below rest = rest

rises_ordered : {V : Type 0} (ps : List (List ℕ × V)) → Rises (in_order ps)
rises_ordered [] = tt
rises_ordered (p ∷ ps) = rises_put p.0 p.1 (in_order ps) (rises_ordered ps)

-- ---- places that pass a test

module _ (w : ℕ → Bool) where
  abbrev chosen : Option ℕ → Option ℕ
  chosen o = option_and_then (λ i. cond (w i) (Some i) None) o

  abbrev pub some_of : List (List ℕ × ℕ) → List (List ℕ × ℕ)
  some_of ms = filter (λ (p : List ℕ × ℕ). w p.1) ms

  value_some : (q : List ℕ) (ms : List (List ℕ × ℕ)) → Rises ms → value_at q (some_of ms) ≡ chosen (value_at q ms)
  value_some q [] up = refl
  value_some q (m ∷ ms) up = by (same_text q m.0) (w m.1) refl refl (value_some q ms up.1)
    where
      by : (a b : Bool) → a ≡ same_text q m.0 → b ≡ w m.1 → value_at q (some_of ms) ≡ chosen (value_at q ms) → value_at q (cond b (m ∷ some_of ms) (some_of ms)) ≡ chosen (cond a (Some m.1) (value_at q ms))
      by true true is also rest = ap (λ c. cond c (Some m.1) (value_at q (some_of ms))) (sym is) ∙ ap (λ c. cond c (Some m.1) None) also
      by true false is also rest =
          ap (λ r. value_at r (some_of ms)) (text_same q m.0 is) ∙ below_none m.0 (some_of ms) (below_some (λ (p : List ℕ × ℕ). w p.1) m.0 ms up.0 up.1) (rises_some (λ (p : List ℕ × ℕ). w p.1) ms up.1)
          ∙ ap (λ c. cond c (Some m.1) None) also
      by false true is also rest = ap (λ c. cond c (Some m.1) (value_at q (some_of ms))) (sym is) ∙ rest
      by false false is also rest = rest

  -- a field that doesn't pass
  no_later : (q k : List ℕ) (m : ℕ) (fs : List Field) → true ≡ bytes_eq q k → AllByRecursion (λ g. k ≡ field_text g → ⊥) fs → position_from (is_text q) m (texts_of fs) ≡ None
  no_later q k m [] is apart = refl
  no_later q k m (g ∷ fs) is apart = by (bytes_eq q (field_text g)) refl (no_later q k (m + 1) fs is apart.1)
    where
      by : (b : Bool) → b ≡ bytes_eq q (field_text g) → position_from (is_text q) (m + 1) (texts_of fs) ≡ None → cond b (Some m) (position_from (is_text q) (m + 1) (texts_of fs)) ≡ None
      by true also rest = absurd (apart.0 (sym (text_same q k is) ∙ text_same q (field_text g) also))
      by false also rest = rest

  passed : (q : List ℕ) (n : ℕ) (f : Field) (fs : List Field) (b : Bool) (o : Option ℕ) → b ≡ bytes_eq q (field_text f) → w n ≡ false → AllByRecursion (λ g. field_text f ≡ field_text g → ⊥) fs
      → o ≡ chosen (position_from (is_text q) (n + 1) (texts_of fs)) → o ≡ chosen (cond b (Some n) (position_from (is_text q) (n + 1) (texts_of fs)))
  passed q n f fs true o is out apart same = same ∙ ap chosen (no_later q (field_text f) (n + 1) fs is apart) ∙ sym (ap (λ c. cond c (Some n) None) out)
  passed q n f fs false o is out apart same = same

  taken : (n : ℕ) (b : Bool) (o p : Option ℕ) → w n ≡ true → o ≡ chosen p → cond b (Some n) o ≡ chosen (cond b (Some n) p)
  taken n true o p there same = sym (ap (λ c. cond c (Some n) None) there)
  taken n false o p there same = same

  module _ (name : ℕ → List ℕ) where
    abbrev here : List ℕ → List (List ℕ × ℕ)
    here is = map (λ i. (name i, i)) is

    abbrev Names : ℕ → List Field → Type 0
    Names n fs = (j : ℕ) (f : Field) → slice_get fs j ≡ Some f → name (n + j) ≡ field_text f

    abbrev Tells : ℕ → List Field → List (Option Value) → Type 0
    Tells n fs os = (j : ℕ) → w (n + j) ≡ is_written fs os j

    next_names : (n : ℕ) (f : Field) (fs : List Field) → Names n (f ∷ fs) → Names (suc n) fs
    next_names n f fs names j g at = let e : suc n + j ≡ n + suc j = omega arith in ap name e ∙ names (suc j) g at

    next_tells : (n : ℕ) (f : Field) (fs : List Field) (o : Option Value) (os : List (Option Value)) → Tells n (f ∷ fs) (o ∷ os) → Tells (suc n) fs os
    next_tells n f fs o os tells j = let e : suc n + j ≡ n + suc j = omega arith in ap w e ∙ tells (suc j)

    end_tells : (n : ℕ) (f : Field) (fs : List Field) → Tells n (f ∷ fs) [] → Tells (suc n) fs []
    end_tells n f fs tells j = let e : suc n + j ≡ n + suc j = omega arith in ap w e ∙ tells (suc j) ∙ absent (f ∷ fs) (suc j) ∙ sym (absent fs j)
      where
        absent : (gs : List Field) (i : ℕ) → is_written gs [] i ≡ false
        absent [] i = refl
        absent (g ∷ gs) zero = refl
        absent (g ∷ gs) (suc i) = absent gs i

    first_tells : (n : ℕ) (fs : List Field) (os : List (Option Value)) → Tells n fs os → w n ≡ is_written fs os 0
    first_tells n fs os tells = let e : n ≡ n + 0 = omega arith in ap w e ∙ tells 0

    nothing_from : (n : ℕ) (fs : List Field) → places_from n fs [] ≡ []
    nothing_from n [] = refl
    nothing_from n (f ∷ fs) = refl

    found_in : (q : List ℕ) (n : ℕ) (fs : List Field) (os : List (Option Value)) → Names n fs → Tells n fs os → AreNamesApart fs → value_at q (in_order (here (places_from n fs os))) ≡ chosen (position_from (is_text q) n (texts_of fs))
    found_in q n [] os names tells apart = refl
    found_in q n (f ∷ fs) [] names tells apart =
        let rest = found_in q (suc n) fs [] (next_names n f fs names) (end_tells n f fs tells) apart.1 in
        passed q n f fs (bytes_eq q (field_text f)) None refl (first_tells n (f ∷ fs) [] tells) apart.0
        (ap (λ is. value_at q (in_order (here is))) (sym (nothing_from (suc n) fs)) ∙ rest ∙ ap (λ m. chosen (position_from (is_text q) m (texts_of fs))) (sym (add-one n)))
    found_in q n (f ∷ fs) (None ∷ os) names tells apart =
        let rest = found_in q (suc n) fs os (next_names n f fs names) (next_tells n f fs None os tells) apart.1 in
        passed q n f fs (bytes_eq q (field_text f)) (value_at q (in_order (here (places_from (suc n) fs os)))) refl (first_tells n (f ∷ fs) (None ∷ os) tells) apart.0
        (rest ∙ ap (λ m. chosen (position_from (is_text q) m (texts_of fs))) (sym (add-one n)))
    found_in q n (f ∷ fs) (Some v ∷ os) names tells apart =
        by (is_left_out f.implicit v) refl
        (found_in q (suc n) fs os (next_names n f fs names) (next_tells n f fs (Some v) os tells) apart.1 ∙ ap (λ m. chosen (position_from (is_text q) m (texts_of fs))) (sym (add-one n)))
      where
        first : name n ≡ field_text f
        first = let e : n ≡ n + 0 = omega arith in ap name e ∙ names 0 f refl

        by : (b : Bool) → is_left_out f.implicit v ≡ b → value_at q (in_order (here (places_from (suc n) fs os))) ≡ chosen (position_from (is_text q) (n + 1) (texts_of fs))
            → value_at q (in_order (here (cond b (places_from (suc n) fs os) (n ∷ places_from (suc n) fs os)))) ≡ chosen (cond (bytes_eq q (field_text f)) (Some n) (position_from (is_text q) (n + 1) (texts_of fs)))
        by true out rest =
            passed q n f fs (bytes_eq q (field_text f)) (value_at q (in_order (here (places_from (suc n) fs os)))) refl (first_tells n (f ∷ fs) (Some v ∷ os) tells ∙ ap not out) apart.0 rest
        by false out rest =
            let ms = in_order (here (places_from (suc n) fs os)) in
            value_put q (name n) n ms ∙ ap (λ k. cond (same_text q k) (Some n) (value_at q ms)) first
            ∙ taken n (bytes_eq q (field_text f)) (value_at q ms) (position_from (is_text q) (n + 1) (texts_of fs)) (first_tells n (f ∷ fs) (Some v ∷ os) tells ∙ ap not out) rest

-- ---- the fields that are written

module _ (fs : List Field) (os : List (Option Value)) (key : List ℕ) where
  text_there : (n : ℕ) (o : Option Field) → slice_get fs n ≡ o → option_map_or (λ (f : Field). option_map_or (λ v. not (is_left_out f.implicit v)) (field_at os n) false) o false ≡ true
      → option_map_or field_text o key ≡ unwrap_or (option_and_then (λ t. t) (option_map {U = Option (List ℕ)} (λ (f : Field). Some (field_text f)) o)) []
  text_there n None at is = absurd cc
  text_there n (Some f) at is = refl

  name_is : (n : ℕ) → is_written fs os n ≡ true → name_at fs key n ≡ unwrap_or (text_at (texts_of fs) n) []
  name_is n is =
      text_there n (slice_get fs n) refl is
      ∙ ap (λ o. unwrap_or (option_and_then (λ t. t) o) []) (sym (slice_get-map {B = Option (List ℕ)} (λ (f : Field). Some (field_text f)) fs n))

  pub kept_is : (ns : List ℕ) → named fs key (written_of fs os ns) ≡ some_of (is_written fs os) (under_texts (texts_of fs) ns)
  kept_is [] = refl
  kept_is (n ∷ ns) = by (is_written fs os n) refl (kept_is ns)
    where
      by : (b : Bool) → is_written fs os n ≡ b → named fs key (written_of fs os ns) ≡ some_of (is_written fs os) (under_texts (texts_of fs) ns)
          → named fs key (cond b (n ∷ written_of fs os ns) (written_of fs os ns))
          ≡ cond b ((unwrap_or (text_at (texts_of fs) n) [], n) ∷ some_of (is_written fs os) (under_texts (texts_of fs) ns)) (some_of (is_written fs os) (under_texts (texts_of fs) ns))
      by true is rest = ap (λ k. (k, n) ∷ named fs key (written_of fs os ns)) (name_is n is) ∙ ap (λ (xs : List (List ℕ × ℕ)). (unwrap_or (text_at (texts_of fs) n) [], n) ∷ xs) rest
      by false is rest = rest

  own_name : (j : ℕ) (f : Field) → slice_get fs j ≡ Some f → name_at fs key (0 + j) ≡ field_text f
  own_name j f at = let e : 0 + j ≡ j = omega arith in ap (name_at fs key) e ∙ ap (λ o. option_map_or field_text o key) at

  own_test : (j : ℕ) → is_written fs os (0 + j) ≡ is_written fs os j
  own_test j = let e : 0 + j ≡ j = omega arith in ap (is_written fs os) e

  pub keyed : AreNamesApart fs → (ns : List ℕ) → InKeyOrder (texts_of fs) ns → named fs key (written_of fs os ns) ≡ in_order (named fs key (places_from 0 fs os))
  keyed apart ns order =
      let under = under_texts (texts_of fs) ns in
      let w = is_written fs os in
      kept_is ns
      ∙ rising_same (some_of w under) (in_order (named fs key (places_from 0 fs os))) (rises_some (λ (p : List ℕ × ℕ). w p.1) under order.rising) (rises_ordered (named fs key (places_from 0 fs os)))
      (λ q. value_some w q under order.rising ∙ ap (chosen w) (order.found q) ∙ sym (found_in w (name_at fs key) q 0 fs os own_name own_test apart))
