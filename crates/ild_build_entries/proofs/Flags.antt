-- Flags that are set where some are counted.
use Rattle.std.proofs.Common.{◌≡◌, ◌⊎◌, inl, inr, ⊎_elim, ℕ, zero, suc, ◌≤◌, Bool, true, false, refl, ap, arith}
use Rattle.ild_build_entries.specs.Fine.{told, SetWhere}

pub set_none : (b : Bool) → SetWhere b 0 b
set_none b = record { set = λ k. omega (arith, k); only = λ k. omega (arith, k) }

none_or_some : (n : ℕ) → (n ≡ 0) ⊎ (1 ≤ n)
none_or_some zero = inl refl
none_or_some (suc n) = inr (omega arith)

pub true_false : (b : Bool) → b ≡ true → b ≡ false → ⊥
true_false true a e = absurd cc
true_false false a e = absurd cc

-- true or false, with the equation
pub by_flag : {P : Type 0} (b : Bool) → (b ≡ true → P) → (b ≡ false → P) → P
by_flag true f g = f refl
by_flag false f g = g refl

pub unset : (was now : Bool) (n : ℕ) → SetWhere was n now → now ≡ false → (was ≡ false) × (n ≡ 0)
unset was now n s e = by_flag was (λ k. absurd (none (ap told k))) (λ k. (k, count (ap told k)))
  where
    zero_now : told now ≡ 0
    zero_now = ap told e

    none : told was ≡ 1 → ⊥
    none k = let y = s.set (omega (arith, k)) in omega (arith, y, zero_now)

    count : told was ≡ 0 → n ≡ 0
    count k = ⊎_elim (λ (x : n ≡ 0). x) (λ (x : 1 ≤ n). let y = s.set (omega (arith, x)) in absurd (omega (arith, y, zero_now))) (none_or_some n)

pub never_set : (was now : Bool) (n : ℕ) → SetWhere was n now → was ≡ false → n ≡ 0 → now ≡ false
never_set was now n s e none = by_flag now (λ k. let one : told now ≡ 1 = ap told k in let z : told was ≡ 0 = ap told e in let y = s.only (omega (arith, one)) in absurd (omega (arith, y, z, none))) (λ k. k)

pub unlong : (was now : Bool) → (was ≡ true → now ≡ true) → now ≡ false → was ≡ false
unlong was now stays e = by_flag was (λ k. absurd (true_false now (stays k) e)) (λ k. k)
