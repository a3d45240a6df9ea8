-- Where a text stands in another, by what a search of it says.
use Rattle.std.proofs.Common.{◌≡◌, ℕ, zero, suc, ◌+◌, ◌≤◌, Bool, true, false, ◌||◌, List, [], ◌∷◌, ◌++◌, Option, Some, None, is_some, length, take, drop, nat_eq, refl, ap, sym, ◌∙◌, arith}
use Rattle.std.specs.List.{starts_with}
use Rattle.std.proofs.lemmas.Bool.Decides.{Decides-eqb}
use Rattle.std.proofs.lemmas.List.{take_at, length-append, length-drop}
use Rattle.std.proofs.lemmas.Slice.Eq.{starts_is}
use Rattle.memchr.specs.Find.{FindsNeedle, OccursAt}
use Rattle.memchr.proofs.lemmas.MatchLemmas.{OccursAt-from_part, OccursAt-split}
use Rattle.ild_schema.specs.Delimiters.{occurs}

-- a text begins with another exactly where that is its front
begins : (text part : List ℕ) → (starts_with nat_eq text part ≡ true → text ≡ part ++ drop (length part) text) × ((rest : List ℕ) → text ≡ part ++ rest → starts_with nat_eq text part ≡ true)
begins text part = starts_is Decides-eqb text part (starts_with nat_eq text part) refl

or_true : (b : Bool) → b || true ≡ true
or_true true = refl
or_true false = refl

occurs_behind : (part text : List ℕ) (k : ℕ) → starts_with nat_eq (drop k text) part ≡ true → occurs part text ≡ true
occurs_behind part [] zero h = h
occurs_behind part [] (suc k) h = h
occurs_behind part (b ∷ bs) zero h = rw h refl
occurs_behind part (b ∷ bs) (suc k) h = ap (λ c. starts_with nat_eq (b ∷ bs) part || c) (occurs_behind part bs k h) ∙ or_true (starts_with nat_eq (b ∷ bs) part)

occurs_place : (part text : List ℕ) → occurs part text ≡ true → (k : ℕ) × (k ≤ length text) × (starts_with nat_eq (drop k text) part ≡ true)
occurs_place part [] h = (0, omega arith, h)
occurs_place part (b ∷ bs) h = by (starts_with nat_eq (b ∷ bs) part) refl h (λ g. occurs_place part bs g)
  where
    by : (c : Bool) → starts_with nat_eq (b ∷ bs) part ≡ c → c || occurs part bs ≡ true → (occurs part bs ≡ true → (k : ℕ) × (k ≤ length bs) × (starts_with nat_eq (drop k bs) part ≡ true))
        → (k : ℕ) × (k ≤ suc (length bs)) × (starts_with nat_eq (drop k (b ∷ bs)) part ≡ true)
    by true e h more = (0, omega arith, e)
    by false e h more = let there = more h in (suc there.0, omega (arith, there.1), there.2)

occurs_there : (part text : List ℕ) (k : ℕ) → k ≤ length text → starts_with nat_eq (drop k text) part ≡ true → OccursAt text part k
occurs_there part text k le h =
    let cut : drop k text ≡ part ++ drop (length part) (drop k text) = (begins (drop k text) part).0 h in
    let size : length (drop k text) ≡ length part + length (drop (length part) (drop k text)) = ap length cut ∙ length-append part (drop (length part) (drop k text)) in
    OccursAt-from_part text part k (omega (arith, size, length-drop k text, le)) (ap (take (length part)) cut ∙ take_at part (drop (length part) (drop k text)) (length part) refl)

-- a search finds a text exactly where it occurs
pub occurs_is : (part text : List ℕ) (found : Option ℕ) → FindsNeedle text part 0 found → is_some found ≡ occurs part text
occurs_is part text None h = sym (by (occurs part text) refl)
  where
    by : (b : Bool) → occurs part text ≡ b → b ≡ false
    by false e = refl
    by true e = let there = occurs_place part text e in absurd (h there.0 (omega arith) (omega (arith, there.1)) (occurs_there part text there.0 there.1 there.2))
occurs_is part text (Some k) h = sym (occurs_behind part text k ((begins (drop k text) part).1 (drop (k + length part) text) (OccursAt-split text part k h.1)))
