-- Among more numbers than a bound, all below it, two are equal.
use Rattle.std.proofs.Common.{◌≡◌, ℕ, zero, suc, ◌<◌, ◌⊎◌, inl, inr, Bool, true, false, cond, eqb, refl, ap, sym, ◌∙◌, arith}
use Rattle.std.proofs.lemmas.Bool.{cases_eq, eqb-true, eqb-false}

-- two places below a bound at which a function is the same
pub record Meets (f : ℕ → ℕ) (count : ℕ) : Type 0 where
  pub first : ℕ
  pub second : ℕ
  pub apart : first < second
  pub within : second < count
  pub same : f first ≡ f second

-- whether a function has a value at some place below a bound
pub sought : (f : ℕ → ℕ) (v count : ℕ) → ((i : ℕ) × (i < count) × (f i ≡ v)) ⊎ ((i : ℕ) → i < count → f i ≡ v → ⊥)
sought f v zero = inr (λ i h e. omega arith)
sought f v (suc count) = elim (sought f v count) [
  | inl found ↦ inl (found.0, omega (arith, found.1), found.2)
  | inr none ↦ elim (cases_eq (f count) v) [
    | inl here ↦ inl (count, omega arith, here)
    | inr other ↦ inr (λ i h e. elim (cases_eq i count) [
      | inl last ↦ other (ap f (sym last) ∙ e)
      | inr before ↦ none i (omega arith) e
    ])
  ]
]

-- a function whose values at the greatest number are replaced by its last value
swapped : (ℕ → ℕ) → ℕ → ℕ → ℕ
swapped f bound i = cond (eqb (f i) bound) (f (suc bound)) (f i)

-- either the value is the greatest number and the last one stands for it, or it stays
swapped_cases : (f : ℕ → ℕ) (bound i : ℕ) → ((f i ≡ bound) × (swapped f bound i ≡ f (suc bound))) ⊎ ((f i ≡ bound → ⊥) × (swapped f bound i ≡ f i))
unfolding swapped
swapped_cases f bound i = by (eqb (f i) bound) refl
  where
    by : (b : Bool) → eqb (f i) bound ≡ b → ((f i ≡ bound) × (cond (eqb (f i) bound) (f (suc bound)) (f i) ≡ f (suc bound))) ⊎ ((f i ≡ bound → ⊥) × (cond (eqb (f i) bound) (f (suc bound)) (f i) ≡ f i))
    by true e = inl (eqb-true (f i) bound e, ap (λ b. cond b (f (suc bound)) (f i)) e)
    by false e = inr (eqb-false (f i) bound e, ap (λ b. cond b (f (suc bound)) (f i)) e)

swapped_below : (f : ℕ → ℕ) (bound i : ℕ) → ((i : ℕ) → i < suc (suc bound) → f i < suc bound) → ((i : ℕ) → i < suc bound → f i ≡ f (suc bound) → ⊥) → i < suc bound → swapped f bound i < bound
swapped_below f bound i below alone within = elim (swapped_cases f bound i) [
  | inl top ↦
      let last : f (suc bound) < suc bound = below (suc bound) (omega arith) in
      let other : f (suc bound) ≡ bound → ⊥ = λ e. alone i within (top.0 ∙ sym e) in
      omega (arith, top.1, last, other)
  | inr stays ↦
      let low : f i < suc bound = below i (omega arith) in
      omega (arith, stays.0, stays.1, low)
]

swapped_same : (f : ℕ → ℕ) (bound i j : ℕ) → ((i : ℕ) → i < suc bound → f i ≡ f (suc bound) → ⊥) → i < suc bound → j < suc bound → swapped f bound i ≡ swapped f bound j → f i ≡ f j
swapped_same f bound i j alone first second e = elim (swapped_cases f bound i) [
  | inl top ↦ elim (swapped_cases f bound j) [
    | inl both ↦ top.0 ∙ sym both.0
    | inr stays ↦ absurd (alone j second (sym stays.1 ∙ sym e ∙ top.1))
  ]
  | inr kept ↦ elim (swapped_cases f bound j) [
    | inl top ↦ absurd (alone i first (sym kept.1 ∙ e ∙ top.1))
    | inr stays ↦ sym kept.1 ∙ e ∙ stays.1
  ]
]

pub meets : (bound : ℕ) (f : ℕ → ℕ) → ((i : ℕ) → i < suc bound → f i < bound) → Meets f (suc bound)
meets zero f below = let h : f 0 < 0 = below 0 (omega arith) in absurd (omega arith)
meets (suc bound) f below = elim (sought f (f (suc bound)) (suc bound)) [
  | inl found ↦ record { first = found.0; second = suc bound; apart = found.1; within = omega arith; same = found.2 }
  | inr alone ↦
      let rest : Meets (swapped f bound) (suc bound) = meets bound (swapped f bound) (λ i h. swapped_below f bound i below alone h) in
      record {
        first = rest.first;
        second = rest.second;
        apart = rest.apart;
        within = omega (arith, rest.within);
        same = swapped_same f bound rest.first rest.second alone (omega (arith, rest.apart, rest.within)) rest.within rest.same;
      }
]
