-- The pairs of a struct's fields, passed over field by field.
use Rattle.std.proofs.Common.{◌≡◌, ◌<◌, ◌≤◌, ◌+◌, ◌-◌, ℕ, suc, List, [], ◌∷◌, Bool, true, false, cond, drop, get_or, length, Some, None, refl, sym, ◌∙◌, ap, arith}
use Rattle.std.proofs.lemmas.Option.{same_Some, none-some}
use Rattle.ild_path_last.proofs.Passing.{drop_first}
use Rattle.ild_data.specs.Key.{same_text}
use Rattle.ild_path_pairs.specs.inside.Seats.{behind_first, count_behind, is_first, left_behind, passed}
use Rattle.ild_schema.specs.Marks.{field_text}
use Rattle.ild_schema.specs.declared.def.Field.{Field}

-- where the first pair has the key, and where it has not
record IsPassed (k : List ℕ) (ps qs : List (List ℕ × List ℕ)) : Type 0 where
  first : is_first k ps ≡ true
  rest : passed k ps ≡ qs

record IsKept (k : List ℕ) (ps : List (List ℕ × List ℕ)) : Type 0 where
  first : is_first k ps ≡ false
  rest : passed k ps ≡ ps

is_passed : (k : List ℕ) (ps qs : List (List ℕ × List ℕ)) → Some qs ≡ behind_first k ps → IsPassed k ps qs
is_passed k [] qs h = absurd (none-some qs (sym h))
is_passed k (p ∷ ps) qs h = by (same_text k p.0) refl h where
  by : (b : Bool) → same_text k p.0 ≡ b → Some qs ≡ cond b (Some ps) None → IsPassed k (p ∷ ps) qs
  by true e g = record { first = e; rest = ap (λ c. cond c ps (p ∷ ps)) e ∙ sym (same_Some qs ps g) }
  by false e g = absurd (none-some qs (sym g))

is_kept : (k : List ℕ) (ps : List (List ℕ × List ℕ)) → None ≡ behind_first k ps → IsKept k ps
is_kept k [] h = record { first = refl; rest = refl }
is_kept k (p ∷ ps) h = by (same_text k p.0) refl h where
  by : (b : Bool) → same_text k p.0 ≡ b → None ≡ cond b (Some ps) None → IsKept k (p ∷ ps)
  by true e g = absurd (none-some ps g)
  by false e g = record { first = e; rest = ap (λ c. cond c ps (p ∷ ps)) e }

-- so many fields are passed over, and so many pairs
pub record Walk (all : List Field) (number : ℕ) (whole : List (List ℕ × List ℕ)) (i place : ℕ) (left : List (List ℕ × List ℕ)) : Type 0 where
  pub within : i ≤ number
  pub few : place ≤ i
  pub count : place + count_behind (drop i all) (number - i) left ≡ count_behind all number whole
  pub rest : left_behind (drop i all) (number - i) left ≡ left_behind all number whole

none_counted : (fs : List Field) (ps : List (List ℕ × List ℕ)) → count_behind fs 0 ps ≡ 0
none_counted [] ps = refl
none_counted (f ∷ fs) ps = refl

none_passed : (fs : List Field) (ps : List (List ℕ × List ℕ)) → left_behind fs 0 ps ≡ ps
none_passed [] ps = refl
none_passed (f ∷ fs) ps = refl

drop_none : {A : Type 0} (xs : List A) → drop 0 xs ≡ xs
drop_none [] = refl
drop_none (x ∷ xs) = refl

module _ (all : List Field) (number : ℕ) (whole : List (List ℕ × List ℕ)) where
  pub starts : Walk all number whole 0 0 whole
  starts =
      let none : number - 0 ≡ number = omega arith in
      let count : count_behind (drop 0 all) (number - 0) whole ≡ count_behind all number whole = λ j. count_behind (drop_none all j) (none j) whole in
      record { within = omega arith; few = omega arith; count = omega (arith, count); rest = λ j. left_behind (drop_none all j) (none j) whole }

  module _ (i place : ℕ) (left : List (List ℕ × List ℕ)) (walk : Walk all number whole i place left) where
    module _ (less : i < number) (long : number < length all) (f : Field) (is : f ≡ get_or all i f) (name : List ℕ) (called : name ≡ field_text f) where
      behind : drop i all ≡ f ∷ drop (i + 1) all
      behind =
          let one : suc i ≡ i + 1 = omega arith in
          drop_first all i f (omega (arith, less, long)) ∙ (λ j. sym is j ∷ drop (one j) all)

      fewer : number - i ≡ suc (number - (i + 1))
      fewer = omega (arith, less)

      pub passes : (qs : List (List ℕ × List ℕ)) → Some qs ≡ behind_first name left → Walk all number whole (i + 1) (place + 1) qs
      passes qs h =
          let p = is_passed (field_text f) left qs (h ∙ ap (λ k. behind_first k left) called) in
          let n = number - (i + 1) in
          let fs = drop (i + 1) all in
          let counted : count_behind (drop i all) (number - i) left ≡ suc (count_behind fs n qs) =
          (λ j. count_behind (behind j) (fewer j) left) ∙ (λ j. cond (p.first j) (suc (count_behind fs n (p.rest j))) (count_behind fs n (p.rest j))) in
          let count = walk.count in
          let few = walk.few in
          record {
            within = omega (arith, less);
            few = omega (arith, few);
            count = omega (arith, counted, count);
            rest = sym ((λ j. left_behind (behind j) (fewer j) left) ∙ ap (left_behind fs n) p.rest) ∙ walk.rest;
          }

      pub keeps : None ≡ behind_first name left → Walk all number whole (i + 1) place left
      keeps h =
          let p = is_kept (field_text f) left (h ∙ ap (λ k. behind_first k left) called) in
          let n = number - (i + 1) in
          let fs = drop (i + 1) all in
          let counted : count_behind (drop i all) (number - i) left ≡ count_behind fs n left =
          (λ j. count_behind (behind j) (fewer j) left) ∙ (λ j. cond (p.first j) (suc (count_behind fs n (p.rest j))) (count_behind fs n (p.rest j))) in
          let count = walk.count in
          let few = walk.few in
          record {
            within = omega (arith, less);
            few = omega (arith, few);
            count = omega (arith, counted, count);
            rest = sym ((λ j. left_behind (behind j) (fewer j) left) ∙ ap (left_behind fs n) p.rest) ∙ walk.rest;
          }

    -- at the field
    module _ (done : number ≤ i) where
      none : number - i ≡ 0
      none = omega (arith, done)

      pub place_is : place ≡ count_behind all number whole
      place_is =
          let counted : count_behind (drop i all) (number - i) left ≡ 0 = ap (λ n. count_behind (drop i all) n left) none ∙ none_counted (drop i all) left in
          let count = walk.count in
          omega (arith, counted, count)

      left_is : left ≡ left_behind all number whole
      left_is = sym (ap (λ n. left_behind (drop i all) n left) none ∙ none_passed (drop i all) left) ∙ walk.rest

      pub is_there : (k : List ℕ) (qs : List (List ℕ × List ℕ)) → Some qs ≡ behind_first k left → true ≡ is_first k (left_behind all number whole)
      is_there k qs h = sym (is_passed k left qs h).first ∙ ap (is_first k) left_is

      pub is_gone : (k : List ℕ) → None ≡ behind_first k left → false ≡ is_first k (left_behind all number whole)
      is_gone k h = sym (is_kept k left h).first ∙ ap (is_first k) left_is
