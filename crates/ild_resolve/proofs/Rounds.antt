-- The types to which a type that is a copy of itself leads.
use Rattle.std.proofs.Common.{◌≡◌, ℕ, zero, suc, ◌+◌, ◌-◌, ◌<◌, ◌≤◌, inl, inr, List, Option, Some, None, length, min, refl, ap, ◌∙◌, arith}
use Rattle.std.specs.Option.{option_and_then}
use Rattle.std.proofs.lemmas.Bool.{cases_lt}
use Rattle.ild_schema.specs.declared.row.Row.{Row}
use Rattle.ild_schema.specs.Copies.{target_in, leads, IsCircular}
use Rattle.ild_schema.specs.Table.{def_at}
use Rattle.ild_schema.proofs.Circles.{Halts, leads_parts, leads_through, leads_same, circular_on, circular_short, copy_here}
use Rattle.ild_resolve.specs.inside.Marks.{IsLeastOfRound}

-- one copy
pub leads_once : (rows : List Row) (n t : ℕ) → target_in (def_at rows n) ≡ Some t → leads rows 1 n ≡ Some t
leads_once rows n t h = ap (λ o. option_and_then (λ m. Some m) o) h

pub leads_one_more : (rows : List Row) (k n m t : ℕ) → leads rows k n ≡ Some m → target_in (def_at rows m) ≡ Some t → leads rows (suc k) n ≡ Some t
leads_one_more rows k n m t h e = leads_through rows k 1 (suc k) n m t (omega arith) h (leads_once rows m t e)

-- a type that is a copy of itself has a target in the table
pub circular_target : (rows : List Row) (n : ℕ) → IsCircular rows n → (t : ℕ) × (t < length rows) × (target_in (def_at rows n) ≡ Some t)
circular_target rows n round = by (target_in (def_at rows n)) refl round.1
  where
    low : (k t : ℕ) → leads rows k t ≡ Some n → t < length rows
    low zero t h = let here : n < length rows = copy_here rows round.0 n n round.1 in let same : t ≡ n = cc in omega (arith, here, same)
    low (suc k) t h = copy_here rows k t n h

    by : (o : Option ℕ) → target_in (def_at rows n) ≡ o → option_and_then (λ t. leads rows round.0 t) o ≡ Some n → (t : ℕ) × (t < length rows) × (target_in (def_at rows n) ≡ Some t)
    by None e h = absurd (cc)
    by (Some t) e h = (t, low round.0 t h, e)

-- what holds of each type on a round holds of all to which it leads
pub round_all : (rows : List Row) (d n least : ℕ) → leads rows (suc d) n ≡ Some n → ((k m : ℕ) → k ≤ d → leads rows k n ≡ Some m → least ≤ m) → (fuel k m : ℕ) → k ≤ fuel → leads rows k n ≡ Some m → least ≤ m
round_all rows d n least round h zero k m small e = h k m (omega arith) e
round_all rows d n least round h (suc fuel) k m small e = elim (cases_lt d k) [
  | inl far ↦
      let parts : Halts rows (suc d) (k - suc d) n m = leads_parts rows (suc d) (k - suc d) k n m (omega arith) e in
      let same : parts.at ≡ n = cc (parts.before, round) in
      round_all rows d n least round h fuel (k - suc d) m (omega arith) (leads_same rows (k - suc d) parts.at n m same parts.after)
  | inr near ↦ h k m near e
]

-- a loop that goes round: it has made so many steps
pub record Rounds (rows : List Row) (from at least count : ℕ) : Type 0 where
  pub within : at < length rows
  pub here : leads rows count from ≡ Some at
  pub on : (k : ℕ) × (leads rows k from ≡ Some least)
  pub low : (k m : ℕ) → k ≤ count → leads rows k from ≡ Some m → least ≤ m

pub round_starts : (rows : List Row) (from : ℕ) → from < length rows → Rounds rows from from from 0
round_starts rows from within = record {
  within = within;
  here = refl;
  on = (0, refl);
  low = λ k m small e. let none : k ≡ 0 = omega arith in let same : from ≡ m = cc (ap (λ j. leads rows j from) none) in omega (arith, same);
}

pub round_goes : (rows : List Row) (from at least count t : ℕ) → Rounds rows from at least count → t < length rows → target_in (def_at rows at) ≡ Some t → Rounds rows from t (min least t) (count + 1)
round_goes rows from at least count t h within e = record {
  within = within;
  here = next;
  on = elim (cases_lt t least) [
    | inl less ↦ let same : t ≡ min least t = omega arith in (count + 1, next ∙ ap Some same)
    | inr more ↦ let same : least ≡ min least t = omega arith in (h.on.0, h.on.1 ∙ ap Some same)
  ];
  low = λ k m small f. elim (cases_lt count k) [
    | inl last ↦
        let here : k ≡ count + 1 = omega arith in
        let same : t ≡ m = cc (next, f, ap (λ j. leads rows j from) here) in
        omega (arith, same)
    | inr before ↦ let below : least ≤ m = h.low k m before f in omega (arith, below)
  ];
}
  where
    next : leads rows (count + 1) from ≡ Some t
    next = let whole : count + 1 ≡ suc count = omega arith in ap (λ j. leads rows j from) whole ∙ leads_one_more rows count from at t h.here e

-- the loop comes back to where it began, or has made as many steps as there are types
pub round_closes : (rows : List Row) (from at least count : ℕ) → Rounds rows from at least count → target_in (def_at rows at) ≡ Some from → IsLeastOfRound rows from least
round_closes rows from at least count h e =
    (h.on, λ k m f. round_all rows count from least (leads_one_more rows count from at from h.here e) h.low k k m (omega arith) f)

pub round_long : (rows : List Row) (from at least count : ℕ) → IsCircular rows from → length rows ≤ count → Rounds rows from at least count → IsLeastOfRound rows from least
round_long rows from at least count round long h =
    let short = circular_short rows from round in
    (h.on, λ k m f. round_all rows short.0 from least short.2 (λ j l small g. h.low j l (omega (arith, short.1)) g) k k m (omega arith) f)

-- a round has a next type
pub round_stays : (rows : List Row) (from at least count : ℕ) → IsCircular rows from → Rounds rows from at least count → ((t : ℕ) → target_in (def_at rows at) ≡ Some t → length rows ≤ t) → ⊥
round_stays rows from at least count round h none =
    let target = circular_target rows at (circular_on rows count from at round h.here) in
    let past : length rows ≤ target.0 = none target.0 target.2 in
    omega (arith, past, target.1)
