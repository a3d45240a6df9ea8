-- What is seen of a change, holder by holder from the last.
use Rattle.std.proofs.Common.{◌≡◌, ◌<◌, ◌≤◌, ◌+◌, ℕ, zero, suc, List, [], ◌∷◌, ◌++◌, false, drop, get_or, length, slice_get, take, Option, Some, None, option_map, refl, sym, ◌∙◌, ap, subst, arith}
use Rattle.std.specs.Prelude.{option_and_then}
use Rattle.ild_splice_changes.specs.TreeChange.{TreeStep, Located, unchanged, one}
use Rattle.ild_data.specs.Data.{Data}
use Rattle.ild_path_changes.specs.Lift.{lift_within, whole}
use Rattle.ild_path_steps.specs.Steps.{carried, carried_along}
use Rattle.ild_path_steps.specs.declared.steps.PartSteps.{PartSteps}
use Rattle.ild_path_steps.specs.declared.steps.PartSteps.TheVariants as P
use Rattle.ild_path_replaced.specs.Seen.{AreThere, Carries, all_steps, has_whole, seen_at, steps_before, top_of, touched, tree_steps}
use Rattle.ild_path_replaced.specs.declared.touch.Touch.{Touch}
use Rattle.ild_path_replaced.specs.declared.touch.Touch.TheVariants as C

pub no_step : (e : Located) → lift_within [] e ≡ e
no_step unchanged = refl
no_step (one p c) = refl

pub join_one : (p q : List TreeStep) (e : Located) → lift_within p (lift_within q e) ≡ lift_within (p ++ q) e
join_one p q unchanged = refl
join_one p q (one r c) = ap (λ s. one s c) (sym (joined p q r)) where
  joined : (p q r : List TreeStep) → (p ++ q) ++ r ≡ p ++ (q ++ r)
  joined [] q r = refl
  joined (a ∷ p) q r = ap (λ s. a ∷ s) (joined p q r)

-- behind the kth holder
pub record Seeing (os : List PartSteps) (ws : List (Option Data)) (e : Located) (k : ℕ) (touch : Touch) (place : Option ℕ) : Type 0 where
  pub relative : Option ℕ
  pub place_is : place ≡ option_map (λ (j : ℕ). k + j) relative
  pub seen : carried_along (drop k os) (drop k ws) e ≡ seen_at (drop k os) (drop k ws) e relative
  pub top : top_of (carried_along (drop k os) (drop k ws) e) ≡ touched touch
  pub short : k ≤ length os

none_behind : {A : Type 0} (xs : List A) → drop (length xs) xs ≡ []
none_behind [] = refl
none_behind (x ∷ xs) = none_behind xs

as_long : (os : List PartSteps) (ws : List (Option Data)) → AreThere os ws → length os ≡ length ws
as_long [] [] h = refl
as_long [] (w ∷ ws) h = absurd h
as_long (o ∷ os) [] h = absurd h
as_long (o ∷ os) (None ∷ ws) h = absurd h
as_long (o ∷ os) (Some d ∷ ws) h = ap suc (as_long os ws h)

pub begins : (os : List PartSteps) (ws : List (Option Data)) (e : Located) (k : ℕ) (touch : Touch) → k ≡ length os → AreThere os ws → top_of e ≡ touched touch → Seeing os ws e k touch None
begins os ws e k touch k_is h is =
    let a : drop k os ≡ [] = ap (λ (n : ℕ). drop n os) k_is ∙ none_behind os in
    let b : drop k ws ≡ [] = ap (λ (n : ℕ). drop n ws) (k_is ∙ as_long os ws h) ∙ none_behind ws in
    let here : carried_along (drop k os) (drop k ws) e ≡ e = λ i. carried_along (a i) (b i) e in
    record {
      relative = None;
      place_is = refl;
      seen = here ∙ sym (no_step e) ∙ ap (λ os. lift_within (all_steps os) e) (sym a);
      top = ap top_of here ∙ is;
      short = omega (arith, k_is);
    }

-- the holder at a place, and what it becomes
pub record IsNth (os : List PartSteps) (ws : List (Option Data)) (m : ℕ) (o : PartSteps) : Type 0 where
  pub data_is : Data
  pub steps : drop m os ≡ o ∷ drop (suc m) os
  pub becomes : drop m ws ≡ Some data_is ∷ drop (suc m) ws

nth_is : (os : List PartSteps) (ws : List (Option Data)) (m : ℕ) (z : PartSteps) → AreThere os ws → m < length os → IsNth os ws m (get_or os m z)
nth_is [] ws m z h less = absurd (omega (arith, less))
nth_is (p ∷ os) [] m z h less = absurd h
nth_is (p ∷ os) (None ∷ ws) m z h less = absurd h
nth_is (p ∷ os) (Some d ∷ ws) zero z h less = record { data_is = d; steps = refl; becomes = refl }
nth_is (p ∷ os) (Some d ∷ ws) (suc m) z h less = let x = nth_is os ws m z h (omega (arith, less)) in record { data_is = x.data_is; steps = x.steps; becomes = x.becomes }

abbrev next_place : Option ℕ → Option ℕ
next_place r = option_map (λ (j : ℕ). suc j) r

further : (o : PartSteps) (w : Option Data) (os : List PartSteps) (ws : List (Option Data)) (e : Located) (r : Option ℕ) → lift_within (tree_steps o) (seen_at os ws e r) ≡ seen_at (o ∷ os) (w ∷ ws) e (next_place r)
further o w os ws e None = join_one (tree_steps o) (all_steps os) e
further o w os ws e (Some j) = join_one (tree_steps o) (all_steps (take j os)) (whole (option_and_then (λ w. w) (slice_get ws j)))

moved_place : (k m : ℕ) (r place : Option ℕ) → k ≡ m + 1 → place ≡ option_map (λ (j : ℕ). k + j) r → place ≡ option_map (λ (j : ℕ). m + j) (next_place r)
moved_place k m None place e h = h
moved_place k m (Some j) place e h = let same : k + j ≡ m + suc j = omega (arith, e) in h ∙ ap (λ (n : ℕ). Some n) same

module _ (os : List PartSteps) (ws : List (Option Data)) (e : Located) (k m : ℕ) (touch : Touch) (place : Option ℕ) (s : Seeing os ws e k touch place) (one_less : k ≡ m + 1) (z : PartSteps) (there : AreThere os ws)
    (r : Option Touch) (carries : (d : Data) (x : Located) → top_of x ≡ touched touch → Carries (get_or os m z) (Some d) x r)
  where
    less : m < length os
    less = let short = s.short in omega (arith, short, one_less)

    at : IsNth os ws m (get_or os m z)
    at = nth_is os ws m z there less

    inner : Located
    inner = carried_along (drop (suc m) os) (drop (suc m) ws) e

    suc_is : k ≡ suc m
    suc_is = omega (arith, one_less)

    inner_seen : carried_along (drop (suc m) os) (drop (suc m) ws) e ≡ seen_at (drop (suc m) os) (drop (suc m) ws) e s.relative
    inner_seen = subst (λ (n : ℕ). carried_along (drop n os) (drop n ws) e ≡ seen_at (drop n os) (drop n ws) e s.relative) suc_is s.seen

    inner_top : top_of (carried_along (drop (suc m) os) (drop (suc m) ws) e) ≡ touched touch
    inner_top = subst (λ (n : ℕ). top_of (carried_along (drop n os) (drop n ws) e) ≡ touched touch) suc_is s.top

    whole_is : carried_along (drop m os) (drop m ws) e ≡ carried (get_or os m z) (Some at.data_is) (carried_along (drop (suc m) os) (drop (suc m) ws) e)
    whole_is = λ i. carried_along (at.steps i) (at.becomes i) e

    pub goes_on : (above : Touch) → r ≡ Some above → Seeing os ws e m above place
    goes_on above r_is =
        let c : Carries (get_or os m z) (Some at.data_is) (carried_along (drop (suc m) os) (drop (suc m) ws) e) (Some above) =
        subst (Carries (get_or os m z) (Some at.data_is) (carried_along (drop (suc m) os) (drop (suc m) ws) e)) r_is (carries at.data_is (carried_along (drop (suc m) os) (drop (suc m) ws) e) inner_top) in
        record {
          relative = next_place s.relative;
          place_is = moved_place k m s.relative place one_less s.place_is;
          seen = whole_is ∙ c.0 ∙ ap (lift_within (tree_steps (get_or os m z))) inner_seen ∙ further (get_or os m z) (Some at.data_is) (drop (suc m) os) (drop (suc m) ws) e s.relative
              ∙ (λ i. seen_at (sym at.steps i) (sym at.becomes i) e (next_place s.relative));
          top = ap top_of whole_is ∙ c.1;
          short = omega (arith, less);
        }

    pub stops : r ≡ None → Seeing os ws e m C.Whole (Some m)
    stops r_is =
        let c : carried (get_or os m z) (Some at.data_is) (carried_along (drop (suc m) os) (drop (suc m) ws) e) ≡ whole (Some at.data_is) =
        subst (Carries (get_or os m z) (Some at.data_is) (carried_along (drop (suc m) os) (drop (suc m) ws) e)) r_is (carries at.data_is (carried_along (drop (suc m) os) (drop (suc m) ws) e) inner_top) in
        let here : m ≡ m + 0 = omega arith in
        record {
          relative = Some 0;
          place_is = ap (λ (n : ℕ). Some n) here;
          seen = whole_is ∙ c ∙ sym (no_step (whole (Some at.data_is))) ∙ (λ i. seen_at (sym at.steps i) (sym at.becomes i) e (Some 0));
          top = ap top_of (whole_is ∙ c);
          short = omega (arith, less);
        }

same_place : (r place : Option ℕ) → place ≡ option_map (λ (j : ℕ). 0 + j) r → r ≡ place
same_place None place h = sym h
same_place (Some j) place h = let same : j ≡ 0 + j = omega arith in ap (λ (n : ℕ). Some n) same ∙ sym h

pub ends : (os : List PartSteps) (ws : List (Option Data)) (e : Located) (k : ℕ) (touch : Touch) (place : Option ℕ) → Seeing os ws e k touch place → k ≡ 0 → carried_along os ws e ≡ seen_at os ws e place
ends os ws e k touch place s none =
    subst (λ (n : ℕ). place ≡ option_map (λ (j : ℕ). n + j) s.relative → carried_along (drop n os) (drop n ws) e ≡ seen_at (drop n os) (drop n ws) e s.relative → carried_along os ws e ≡ seen_at os ws e place) (sym none)
    (λ at seen. seen ∙ ap (seen_at os ws e) (same_place s.relative place at)) s.place_is s.seen

-- ---- no holder before is replaced whatever changes

pub record Before (os : List PartSteps) (k : ℕ) (place : Option ℕ) : Type 0 where
  pub relative : Option ℕ
  pub place_is : place ≡ option_map (λ (j : ℕ). k + j) relative
  pub free : has_whole (steps_before (drop k os) relative) ≡ false

pub before_begins : (os : List PartSteps) (k : ℕ) → k ≡ length os → Before os k None
before_begins os k k_is = record { relative = None; place_is = refl; free = ap has_whole (ap (λ (n : ℕ). drop n os) k_is ∙ none_behind os) }

one_free : (o : PartSteps) (os : List PartSteps) → has_whole (o ∷ []) ≡ false → has_whole os ≡ false → has_whole (o ∷ os) ≡ false
one_free P.Whole os h e = absurd cc
one_free P.Same os h e = e
one_free (P.Item i) os h e = e
one_free (P.Entry k) os h e = e
one_free (P.Pair i) os h e = e
one_free (P.Beside k) os h e = e

nth_steps : (os : List PartSteps) (m : ℕ) (z : PartSteps) → m < length os → drop m os ≡ get_or os m z ∷ drop (suc m) os
nth_steps [] m z less = absurd (omega (arith, less))
nth_steps (p ∷ os) zero z less = refl
nth_steps (p ∷ os) (suc m) z less = nth_steps os m z (omega (arith, less))

more_free : (o : PartSteps) (os : List PartSteps) (r : Option ℕ) → has_whole (o ∷ []) ≡ false → has_whole (steps_before os r) ≡ false → has_whole (steps_before (o ∷ os) (next_place r)) ≡ false
more_free o os None h e = one_free o os h e
more_free o os (Some j) h e = one_free o (take j os) h e

pub before_goes : (os : List PartSteps) (k m : ℕ) (place : Option ℕ) (z : PartSteps) → Before os k place → k ≡ m + 1 → m < length os → has_whole (get_or os m z ∷ []) ≡ false → Before os m place
before_goes os k m place z b one_less less free =
    let step : k ≡ suc m = omega (arith, one_less) in
    let rest : has_whole (steps_before (drop (suc m) os) b.relative) ≡ false = subst (λ (n : ℕ). has_whole (steps_before (drop n os) b.relative) ≡ false) step b.free in
    record {
      relative = next_place b.relative;
      place_is = moved_place k m b.relative place one_less b.place_is;
      free = ap (λ xs. has_whole (steps_before xs (next_place b.relative))) (nth_steps os m z less) ∙ more_free (get_or os m z) (drop (suc m) os) b.relative free rest;
    }

pub before_stops : (os : List PartSteps) (m : ℕ) → Before os m (Some m)
before_stops os m = let here : m ≡ m + 0 = omega arith in record { relative = Some 0; place_is = ap (λ (n : ℕ). Some n) here; free = none_taken (drop m os) } where
  none_taken : (xs : List PartSteps) → has_whole (take 0 xs) ≡ false
  none_taken [] = refl
  none_taken (x ∷ xs) = refl

pub before_ends : (os : List PartSteps) (k : ℕ) (place : Option ℕ) → Before os k place → k ≡ 0 → has_whole (steps_before os place) ≡ false
before_ends os k place b none =
    subst (λ (n : ℕ). place ≡ option_map (λ (j : ℕ). n + j) b.relative → has_whole (steps_before (drop n os) b.relative) ≡ false → has_whole (steps_before os place) ≡ false) (sym none)
    (λ at free. ap (λ r. has_whole (steps_before os r)) (sym (same_place b.relative place at)) ∙ free) b.place_is b.free
