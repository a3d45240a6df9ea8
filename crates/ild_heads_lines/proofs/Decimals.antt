-- The numbers of sessions are the decimals below 1000.
use Rattle.std.specs.Prelude.{◌≡◌, ℕ, ◌+◌, ◌-◌, ◌*◌, ◌/◌, ◌%◌, ◌<◌, ◌≤◌, List, [], ◌∷◌, ◌++◌, Bool, true, false, ◌==◌, not, ◌&&◌, if◌then◌else◌, Some, None, refl}
use Rattle.std.proofs.Common.{sym, ap, ◌∙◌, arith, inl, inr, ◌⊎◌}
use Rattle.std.proofs.lemmas.Bool.Decides.{nat_tests}
use Rattle.std.proofs.lemmas.Option.{same_Some}
use Rattle.std.proofs.lemmas.Fmt.{decimal_digit, decimal_step}
use Rattle.std.specs.Fmt.{decimal}
use Rattle.std.proofs.lemmas.Bool.{and_parts}
use Rattle.ild_heads_lines.specs.Number.{is_digit, number_of}
use Rattle.ild_heads_lines.specs.Laws.{NumbersAreDecimals}

-- one, two and three digits
one_digit : (n : ℕ) → n < 10 → decimal n ≡ (48 + n) ∷ []
one_digit = decimal_digit

two_digits : (n : ℕ) → 10 ≤ n → n < 100 → decimal n ≡ (48 + n / 10) ∷ (48 + n % 10) ∷ []
two_digits n low high = decimal_step n low (omega arith) ∙ ap (λ ds. ds ++ (48 + n % 10) ∷ []) (one_digit (n / 10) (omega arith))

three_digits : (n : ℕ) → 100 ≤ n → n < 1000 → decimal n ≡ (48 + n / 10 / 10) ∷ (48 + n / 10 % 10) ∷ (48 + n % 10) ∷ []
three_digits n low high = decimal_step n (omega arith) (omega arith) ∙ ap (λ ds. ds ++ (48 + n % 10) ∷ []) (two_digits (n / 10) (omega arith) (omega arith))

-- what a test that chooses a number says
chosen : (t : Bool) (x n : ℕ) → (if t then Some x else None) ≡ Some n → (t ≡ true) × (x ≡ n)
chosen true x n e = (refl, same_Some x n e)
chosen false x n e = absurd cc

digit_low : (b : ℕ) → is_digit b ≡ true → 48 ≤ b
digit_low b e = grind (arith, nat_tests)

digit_high : (b : ℕ) → is_digit b ≡ true → b < 58
digit_high b e = grind (arith, nat_tests)

not_zero : (b : ℕ) → not (b == 48) ≡ true → b ≡ 48 → ⊥
not_zero b e z = grind (arith, nat_tests)

one_read : (a n : ℕ) → number_of (a ∷ []) ≡ Some n → (n < 1000) × (a ∷ [] ≡ decimal n)
one_read a n e =
    let c = chosen (is_digit a) (a - 48) n e in
    let low = digit_low a c.0 in
    let high = digit_high a c.0 in
    let is = c.1 in
    (omega arith, ap (λ x. x ∷ []) (let s : a ≡ 48 + n = omega arith in s) ∙ sym (one_digit n (omega arith)))

two_read : (a b n : ℕ) → number_of (a ∷ b ∷ []) ≡ Some n → (n < 1000) × (a ∷ b ∷ [] ≡ decimal n)
two_read a b n e =
    let c = chosen (not (a == 48) && (is_digit a && is_digit b)) ((a - 48) * 10 + (b - 48)) n e in
    let p = and_parts (not (a == 48)) (is_digit a && is_digit b) c.0 in
    let q = and_parts (is_digit a) (is_digit b) p.1 in
    let zero = not_zero a p.0 in
    let la = digit_low a q.0 in
    let ha = digit_high a q.0 in
    let lb = digit_low b q.1 in
    let hb = digit_high b q.1 in
    let is = c.1 in
    let first : a ≡ 48 + n / 10 = omega arith in
    let last : b ≡ 48 + n % 10 = omega arith in
    (omega arith, ap (λ x. x ∷ b ∷ []) first ∙ ap (λ y. (48 + n / 10) ∷ y ∷ []) last ∙ sym (two_digits n (omega arith) (omega arith)))

three_read : (a b c n : ℕ) → number_of (a ∷ b ∷ c ∷ []) ≡ Some n → (n < 1000) × (a ∷ b ∷ c ∷ [] ≡ decimal n)
three_read a b c n e =
    let t = chosen (not (a == 48) && (is_digit a && (is_digit b && is_digit c))) ((a - 48) * 100 + (b - 48) * 10 + (c - 48)) n e in
    let p = and_parts (not (a == 48)) (is_digit a && (is_digit b && is_digit c)) t.0 in
    let q = and_parts (is_digit a) (is_digit b && is_digit c) p.1 in
    let r = and_parts (is_digit b) (is_digit c) q.1 in
    let zero = not_zero a p.0 in
    let la = digit_low a q.0 in
    let ha = digit_high a q.0 in
    let lb = digit_low b r.0 in
    let hb = digit_high b r.0 in
    let lc = digit_low c r.1 in
    let hc = digit_high c r.1 in
    let is = t.1 in
    let first : a ≡ 48 + n / 10 / 10 = omega arith in
    let mid : b ≡ 48 + n / 10 % 10 = omega arith in
    let last : c ≡ 48 + n % 10 = omega arith in
    (omega arith, ap (λ x. x ∷ b ∷ c ∷ []) first ∙ ap (λ y. (48 + n / 10 / 10) ∷ y ∷ c ∷ []) mid ∙ ap (λ z. (48 + n / 10 / 10) ∷ (48 + n / 10 % 10) ∷ z ∷ []) last ∙ sym (three_digits n (omega arith) (omega arith)))

read : (text : List ℕ) (n : ℕ) → number_of text ≡ Some n → (n < 1000) × (text ≡ decimal n)
read [] n e = absurd cc
read (a ∷ []) n e = one_read a n e
read (a ∷ b ∷ []) n e = two_read a b n e
read (a ∷ b ∷ c ∷ []) n e = three_read a b c n e
read (a ∷ b ∷ c ∷ d ∷ ds) n e = absurd cc

is_digit_of : (d : ℕ) → d < 10 → is_digit (48 + d) ≡ true
is_digit_of d h = grind (arith, nat_tests)

nonzero_of : (d : ℕ) → 1 ≤ d → not (48 + d == 48) ≡ true
nonzero_of d h = grind (arith, nat_tests)

one_back : (n : ℕ) → n < 10 → number_of ((48 + n) ∷ []) ≡ Some n
one_back n h = rw (is_digit_of n h) (ap Some (let e : 48 + n - 48 ≡ n = omega arith in e))

two_back : (a b : ℕ) → 1 ≤ a → a < 10 → b < 10 → number_of ((48 + a) ∷ (48 + b) ∷ []) ≡ Some (a * 10 + b)
two_back a b z ha hb = rw (nonzero_of a z, is_digit_of a ha, is_digit_of b hb) (ap Some (let e : (48 + a - 48) * 10 + (48 + b - 48) ≡ a * 10 + b = omega arith in e))

three_back : (a b c : ℕ) → 1 ≤ a → a < 10 → b < 10 → c < 10 → number_of ((48 + a) ∷ (48 + b) ∷ (48 + c) ∷ []) ≡ Some (a * 100 + b * 10 + c)
three_back a b c z ha hb hc =
    rw (nonzero_of a z, is_digit_of a ha, is_digit_of b hb, is_digit_of c hc) (ap Some (let e : (48 + a - 48) * 100 + (48 + b - 48) * 10 + (48 + c - 48) ≡ a * 100 + b * 10 + c = omega arith in e))

below : (m n : ℕ) → (n < m) ⊎ (m ≤ n)
below m n = grind arith

back : (n : ℕ) → n < 1000 → number_of (decimal n) ≡ Some n
back n h =
    elim (below 10 n) [
      | inl s ↦ rw (one_digit n s) (one_back n s)
      | inr l ↦ elim (below 100 n) [
        | inl s ↦ rw (two_digits n l s) (two_back (n / 10) (n % 10) (omega arith) (omega arith) (omega arith) ∙ ap Some (let e : n / 10 * 10 + n % 10 ≡ n = omega arith in e))
        | inr k ↦ rw (three_digits n k h)
            (three_back (n / 10 / 10) (n / 10 % 10) (n % 10) (omega arith) (omega arith) (omega arith) (omega arith) ∙ ap Some (let e : n / 10 / 10 * 100 + n / 10 % 10 * 10 + n % 10 ≡ n = omega arith in e))
      ]
    ]

pub numbers : NumbersAreDecimals
numbers = record { back = back; one = read }
