-- No byte is of two classes.
use Rattle.std.proofs.Common.{◌≡◌, ℕ, true, false, refl, sym, subst, arith, ⊎_elim}
use Rattle.std.specs.Prelude.{◌==◌}
use Rattle.std.proofs.lemmas.Bool.{or_cases, eqb-true}
use Rattle.std.proofs.lemmas.Bool.Decides.{nat_tests}
use Rattle.ild_lex.specs.Bytes.{is_letter, is_digit, is_mark, is_blank, hash, quote, minus}

-- what is true of each mark is true of a byte that is one
each_mark : (P : ℕ → Type 0) → P 123 → P 125 → P 91 → P 93 → P 40 → P 41 → P 58 → P 61 → P 124 → P 38 → (b : ℕ) → is_mark b ≡ true → P b
each_mark P p0 p1 p2 p3 p4 p5 p6 p7 p8 p9 b h =
    let is : (n : ℕ) → P n → (b == n) ≡ true → P b = λ n p e. subst P (sym (eqb-true b n e)) p in
    ⊎_elim (λ h8. ⊎_elim (λ h7. ⊎_elim (λ h6. ⊎_elim (λ h5. ⊎_elim (λ h4. ⊎_elim (λ h3. ⊎_elim (λ h2. ⊎_elim (λ h1. ⊎_elim (is 123 p0) (is 125 p1) (or_cases _ _ h1))
    (is 91 p2) (or_cases _ _ h2)) (is 93 p3) (or_cases _ _ h3)) (is 40 p4) (or_cases _ _ h4)) (is 41 p5) (or_cases _ _ h5)) (is 58 p6) (or_cases _ _ h6)) (is 61 p7) (or_cases _ _ h7)) (is 124 p8) (or_cases _ _ h8)) (is 38 p9) (or_cases _ _ h)

pub record IsNeither (b : ℕ) : Type 0 where
  pub letter : is_letter b ≡ false
  pub digit : is_digit b ≡ false
  pub minus : (b == minus) ≡ false
  pub quote : (b == quote) ≡ false
  pub hash : (b == hash) ≡ false
  pub blank : is_blank b ≡ false

neither : (b : ℕ) → is_letter b ≡ false → is_digit b ≡ false → (b == minus) ≡ false → (b == quote) ≡ false → (b == hash) ≡ false → is_blank b ≡ false → IsNeither b
neither b l d m q h k = record { letter = l; digit = d; minus = m; quote = q; hash = h; blank = k }

pub mark_is : (b : ℕ) → is_mark b ≡ true → IsNeither b
mark_is b h =
    each_mark IsNeither (neither _ refl refl refl refl refl refl) (neither _ refl refl refl refl refl refl) (neither _ refl refl refl refl refl refl) (neither _ refl refl refl refl refl refl) (neither _ refl refl refl refl refl refl)
    (neither _ refl refl refl refl refl refl) (neither _ refl refl refl refl refl refl) (neither _ refl refl refl refl refl refl) (neither _ refl refl refl refl refl refl) (neither _ refl refl refl refl refl refl) b h

pub letter_is : (b : ℕ) → is_letter b ≡ true → (is_digit b ≡ false) × ((b == minus) ≡ false) × ((b == quote) ≡ false) × (is_mark b ≡ false) × ((b == hash) ≡ false) × (is_blank b ≡ false)
letter_is b h = (grind (arith, nat_tests), grind (arith, nat_tests), grind (arith, nat_tests), grind (arith, nat_tests), grind (arith, nat_tests), grind (arith, nat_tests))

pub digit_is : (b : ℕ) → is_digit b ≡ true → (is_letter b ≡ false) × ((b == minus) ≡ false) × ((b == quote) ≡ false) × (is_mark b ≡ false) × ((b == hash) ≡ false) × (is_blank b ≡ false)
digit_is b h = (grind (arith, nat_tests), grind (arith, nat_tests), grind (arith, nat_tests), grind (arith, nat_tests), grind (arith, nat_tests), grind (arith, nat_tests))

-- an equal test at an equal byte
pub same_byte : (b n : ℕ) → (b == n) ≡ true → b ≡ n
same_byte b n h = eqb-true b n h
