-- What fields weigh together, in whatever order they are written.
use Rattle.std.proofs.Common.{◌≡◌, ℕ, suc, ◌+◌, List, [], ◌∷◌, length, map, Bool, true, false, cond, Option, Some, None, slice_get, refl, sym, ap, ◌∙◌, subst, arith}
use Rattle.std.specs.List.{AllByRecursion}
use Rattle.std.specs.Option.{option_map_or}
use Rattle.std.specs.Ordering.{match_ordering}
use Rattle.std.specs.declared.cmp.Ordering.{Ordering}
use Rattle.std.specs.declared.cmp.Ordering.TheVariants.{Less, Equal, Greater}
use Rattle.ild_data.specs.Key.{key_cmp, put}
use Rattle.ild_data.proofs.Rising.{key_exact}
use Rattle.ild_schema.specs.declared.def.Field.{Field}
use Rattle.ild_schema.specs.declared.row.Row.{Row}
use Rattle.ild_schema.specs.Clear.{AreNamesApart}
use Rattle.ild_schema.specs.Marks.{field_text}
use Rattle.ild_schema.specs.Value.{Value}
use Rattle.ild_build.specs.LeftOut.{is_left_out}
use Rattle.ild_build.specs.PartAt.{field_at}
use Rattle.ild_build_leaf.specs.Kept.{count_written}
use Rattle.ild_build_pass.specs.inside.Places.{in_order, name_at, named, places_from}
use Rattle.ild_build_pass.specs.Weights.{Weight, weigh, fields_weight, place_weight, places_weight}
use Rattle.ild_build_pass.proofs.Weighing.{field_place, left_weight, no_place}

-- ---- sums of entries by their places

abbrev sum_at : (ℕ → ℕ) → List (List ℕ × ℕ) → ℕ
sum_at at [] = 0
sum_at at (p ∷ ps) = at p.1 + sum_at at ps

-- the key is none of theirs
abbrev IsOther : List ℕ → List (List ℕ × ℕ) → Type 0
IsOther k ps = AllByRecursion (λ p. k ≡ p.0 → ⊥) ps

abbrev AreApart : List (List ℕ × ℕ) → Type 0
AreApart [] = Unit {0}
AreApart (p ∷ ps) = IsOther p.0 ps × AreApart ps

put_sum : (at : ℕ → ℕ) (k : List ℕ) (n : ℕ) (ps : List (List ℕ × ℕ)) → IsOther k ps → sum_at at (put k n ps) ≡ at n + sum_at at ps
put_sum at k n [] h = refl
put_sum at k n (m ∷ ms) h = by (put_sum at k n ms h.1) (key_cmp k m.0) refl
  where
    by : sum_at at (put k n ms) ≡ at n + sum_at at ms → (o : Ordering) → key_cmp k m.0 ≡ o → sum_at at (match_ordering o ((k, n) ∷ m ∷ ms) ((k, n) ∷ ms) (m ∷ put k n ms)) ≡ at n + (at m.1 + sum_at at ms)
    by more Less e = refl
    by more Equal e = absurd (h.0 (key_exact k m.0 e))
    by more Greater e = omega (arith, more)

put_all : (P : List ℕ × ℕ → Type 0) (k : List ℕ) (n : ℕ) (ps : List (List ℕ × ℕ)) → P (k, n) → AllByRecursion P ps → AllByRecursion P (put k n ps)
put_all P k n [] one all = (one, tt)
put_all P k n (m ∷ ms) one all = by (put_all P k n ms one all.1) (key_cmp k m.0)
  where
    by : AllByRecursion P (put k n ms) → (o : Ordering) → AllByRecursion P (match_ordering o ((k, n) ∷ m ∷ ms) ((k, n) ∷ ms) (m ∷ put k n ms))
    by more Less = (one, all)
    by more Equal = (one, all.1)
    by more Greater = (all.0, more)

order_all : (P : List ℕ × ℕ → Type 0) (ps : List (List ℕ × ℕ)) → AllByRecursion P ps → AllByRecursion P (in_order ps)
order_all P [] all = tt
order_all P (p ∷ ps) all = put_all P p.0 p.1 (in_order ps) all.0 (order_all P ps all.1)

order_sum : (at : ℕ → ℕ) (ps : List (List ℕ × ℕ)) → AreApart ps → sum_at at (in_order ps) ≡ sum_at at ps
order_sum at [] h = refl
order_sum at (p ∷ ps) h = put_sum at p.0 p.1 (in_order ps) (order_all (λ q. p.0 ≡ q.0 → ⊥) ps h.0) ∙ ap (λ n. at p.1 + n) (order_sum at ps h.1)

-- ---- the places of fields

module _ (name : ℕ → List ℕ) where
  abbrev Names : ℕ → List Field → Type 0
  Names n fs = (j : ℕ) (f : Field) → slice_get fs j ≡ Some f → name (n + j) ≡ field_text f

  abbrev here : List ℕ → List (List ℕ × ℕ)
  here is = map (λ i. (name i, i)) is

  next_names : (n : ℕ) (f : Field) (fs : List Field) → Names n (f ∷ fs) → Names (suc n) fs
  next_names n f fs names j g at = let e : suc n + j ≡ n + suc j = omega arith in ap name e ∙ names (suc j) g at

  first_name : (n : ℕ) (f : Field) (fs : List Field) → Names n (f ∷ fs) → name n ≡ field_text f
  first_name n f fs names = let e : n ≡ n + 0 = omega arith in ap name e ∙ names 0 f refl

  other_places : (k : List ℕ) (n : ℕ) (fs : List Field) (os : List (Option Value)) → Names n fs → AllByRecursion (λ g. k ≡ field_text g → ⊥) fs → IsOther k (here (places_from n fs os))
  other_places k n [] os names other = tt
  other_places k n (f ∷ fs) [] names other = tt
  other_places k n (f ∷ fs) (None ∷ os) names other = other_places k (suc n) fs os (next_names n f fs names) other.1
  other_places k n (f ∷ fs) (Some v ∷ os) names other = by (other_places k (suc n) fs os (next_names n f fs names) other.1) (is_left_out f.implicit v)
    where
      by : IsOther k (here (places_from (suc n) fs os)) → (b : Bool) → IsOther k (here (cond b (places_from (suc n) fs os) (n ∷ places_from (suc n) fs os)))
      by rest true = rest
      by rest false = ((λ e. other.0 (e ∙ first_name n f fs names)), rest)

  apart_places : (n : ℕ) (fs : List Field) (os : List (Option Value)) → Names n fs → AreNamesApart fs → AreApart (here (places_from n fs os))
  apart_places n [] os names apart = tt
  apart_places n (f ∷ fs) [] names apart = tt
  apart_places n (f ∷ fs) (None ∷ os) names apart = apart_places (suc n) fs os (next_names n f fs names) apart.1
  apart_places n (f ∷ fs) (Some v ∷ os) names apart = by (apart_places (suc n) fs os (next_names n f fs names) apart.1) (is_left_out f.implicit v)
    where
      by : AreApart (here (places_from (suc n) fs os)) → (b : Bool) → AreApart (here (cond b (places_from (suc n) fs os) (n ∷ places_from (suc n) fs os)))
      by rest true = rest
      by rest false = (subst (λ k. IsOther k (here (places_from (suc n) fs os))) (sym (first_name n f fs names)) (other_places (field_text f) (suc n) fs os (next_names n f fs names) apart.0), rest)

  module _ (rows : List Row) (μ : Weight) (at : ℕ → ℕ) where
    abbrev Weighs : ℕ → List Field → List (Option Value) → Type 0
    Weighs n fs os = (j : ℕ) (f : Field) (v : Value) → slice_get fs j ≡ Some f → field_at os j ≡ Some v → at (n + j) ≡ weigh μ rows f.slot v

    next_weighs : (n : ℕ) (f : Field) (fs : List Field) (o : Option Value) (os : List (Option Value)) → Weighs n (f ∷ fs) (o ∷ os) → Weighs (suc n) fs os
    next_weighs n f fs o os w j g v a b = let e : suc n + j ≡ n + suc j = omega arith in ap at e ∙ w (suc j) g v a b

    places_sum : (n : ℕ) (fs : List Field) (os : List (Option Value)) → Weighs n fs os → sum_at at (here (places_from n fs os)) ≡ fields_weight μ rows fs os
    places_sum n [] os w = refl
    places_sum n (f ∷ fs) [] w = refl
    places_sum n (f ∷ fs) (None ∷ os) w = places_sum (suc n) fs os (next_weighs n f fs None os w)
    places_sum n (f ∷ fs) (Some v ∷ os) w = by (places_sum (suc n) fs os (next_weighs n f fs (Some v) os w)) (is_left_out f.implicit v) refl
      where
        by : sum_at at (here (places_from (suc n) fs os)) ≡ fields_weight μ rows fs os → (b : Bool) → is_left_out f.implicit v ≡ b → sum_at at (here (cond b (places_from (suc n) fs os) (n ∷ places_from (suc n) fs os))) ≡ weigh μ rows f.slot v + fields_weight μ rows fs os
        by rest true e = let none = left_weight rows μ f.implicit f.slot v e in omega (arith, none, rest)
        by rest false e = let same : n ≡ n + 0 = omega arith in let first : at n ≡ weigh μ rows f.slot v = ap at same ∙ w 0 f v refl refl in omega (arith, first, rest)

count_from : (name : ℕ → List ℕ) (n : ℕ) (fs : List Field) (os : List (Option Value)) → sum_at (λ i. 1) (here name (places_from n fs os)) ≡ count_written fs os
count_from name n [] os = refl
count_from name n (f ∷ fs) [] = refl
count_from name n (f ∷ fs) (None ∷ os) = count_from name (suc n) fs os
count_from name n (f ∷ fs) (Some v ∷ os) = by (is_left_out f.implicit v) (count_from name (suc n) fs os)
  where
    by : (b : Bool) → sum_at (λ i. 1) (here name (places_from (suc n) fs os)) ≡ count_written fs os
        → sum_at (λ i. 1) (here name (cond b (places_from (suc n) fs os) (n ∷ places_from (suc n) fs os))) ≡ cond b (count_written fs os) (suc (count_written fs os))
    by true rest = rest
    by false rest = omega (arith, rest)

count_all : (ps : List (List ℕ × ℕ)) → length ps ≡ sum_at (λ i. 1) ps
count_all [] = refl
count_all (p ∷ ps) = let rest = count_all ps in omega (arith, rest)

pub order_count : (fs : List Field) (os : List (Option Value)) (key : List ℕ) → AreNamesApart fs → length (in_order (named fs key (places_from 0 fs os))) ≡ count_written fs os
order_count fs os key apart =
    let ps = named fs key (places_from 0 fs os) in
    let names : (j : ℕ) (f : Field) → slice_get fs j ≡ Some f → name_at fs key (0 + j) ≡ field_text f = λ j f at. let e : 0 + j ≡ j = omega arith in ap (name_at fs key) e ∙ ap (λ o. option_map_or field_text o key) at in
    count_all (in_order ps) ∙ order_sum (λ i. 1) ps (apart_places (name_at fs key) 0 fs os names apart) ∙ count_from (name_at fs key) 0 fs os

-- ---- the fields of a struct

module _ (rows : List Row) (μ : Weight) (fs : List Field) (os : List (Option Value)) (key : List ℕ) where
  own : (j : ℕ) (f : Field) → slice_get fs j ≡ Some f → name_at fs key (0 + j) ≡ field_text f
  own j f at = let e : 0 + j ≡ j = omega arith in ap (name_at fs key) e ∙ ap (λ o. option_map_or field_text o key) at

  weighs : (j : ℕ) (f : Field) (v : Value) → slice_get fs j ≡ Some f → field_at os j ≡ Some v → place_weight μ rows fs os (0 + j) ≡ weigh μ rows f.slot v
  weighs j f v at there = let e : 0 + j ≡ j = omega arith in ap (place_weight μ rows fs os) e ∙ field_place rows μ fs os j f v at there

  named_sum : (ps : List ℕ) → places_weight μ rows fs os ps ≡ sum_at (place_weight μ rows fs os) (named fs key ps)
  named_sum [] = refl
  named_sum (p ∷ ps) = ap (λ n. place_weight μ rows fs os p + n) (named_sum ps)

  order_weight : AreNamesApart fs → sum_at (place_weight μ rows fs os) (in_order (named fs key (places_from 0 fs os))) ≡ fields_weight μ rows fs os
  order_weight apart =
      order_sum (place_weight μ rows fs os) (named fs key (places_from 0 fs os)) (apart_places (name_at fs key) 0 fs os own apart)
      ∙ places_sum (name_at fs key) rows μ (place_weight μ rows fs os) 0 fs os weighs

  -- written as a map
  pub fields_spread : AreNamesApart fs → (ps : List ℕ) → named fs key ps ≡ in_order (named fs key (places_from 0 fs os)) → places_weight μ rows fs os ps ≡ fields_weight μ rows fs os
  fields_spread apart ps is = named_sum ps ∙ ap (sum_at (place_weight μ rows fs os)) is ∙ order_weight apart

  -- with a key of its own
  pub tagged_spread : AreNamesApart fs → AllByRecursion (λ f. key ≡ field_text f → ⊥) fs → (n : ℕ) → slice_get fs n ≡ None → (ps : List ℕ) → named fs key ps ≡ put key n (in_order (named fs key (places_from 0 fs os)))
      → places_weight μ rows fs os ps ≡ fields_weight μ rows fs os
  tagged_spread apart other n none ps is =
      let all = order_all (λ q. key ≡ q.0 → ⊥) (named fs key (places_from 0 fs os)) (other_places (name_at fs key) key 0 fs os own other) in
      let sum = put_sum (place_weight μ rows fs os) key n (in_order (named fs key (places_from 0 fs os))) all in
      let nothing = no_place rows μ fs os n none in
      let whole = order_weight apart in
      let first = named_sum ps ∙ ap (sum_at (place_weight μ rows fs os)) is in
      omega (arith, first, sum, nothing, whole)
