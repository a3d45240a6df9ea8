-- A head is the front of nine bytes, of which the last eight hold its argument at their front.
use Rattle.std.proofs.Common.{◌≡◌, ℕ, ◌+◌, ◌-◌, ◌*◌, ◌/◌, ◌%◌, ◌^◌, ◌<◌, Bool, true, false, nat_lt, List, [], ◌∷◌, ◌++◌, take, length, refl, sym, ap, ◌∙◌, arith}
use Rattle.std.specs.Int.{byte_at, to_be_bytes, w16, w32, w64}
use Rattle.std.proofs.lemmas.Bool.Decides.{nat_tests}
use Rattle.std.proofs.Math.Nat.{mul-div-mul_right, mul-div_cancel, mod-eq_of_lt}
use Rattle.std.proofs.Math.Seq.{take-append-add}
use Rattle.ild_data.specs.Spell.{head}
use Rattle.ild_emit.specs.Argument.{bytes_behind, low_bits}

-- the argument at the front of eight bytes
abbrev pub at_front : ℕ → ℕ
at_front n = n * 2 ^ ((64 - 8 * bytes_behind n) % 64) % 2 ^ 64

below : (n a : ℕ) → nat_lt n a ≡ true → n < a
below n a e = grind (arith, nat_tests, e)

byte_1 : (n : ℕ) → n < 2 ^ 8 → byte_at 7 (n * 2 ^ 56 % 2 ^ 64) ≡ n
byte_1 n h = omega (arith, h)

quotient : (n a b c : ℕ) → 0 < b → a * b ≡ c → n * b / c ≡ n / a
quotient n a b c some e = ap (λ d. n * b / d) (sym e) ∙ mul-div-mul_right n a some

-- a byte of the argument, and the one that is so many places higher where the argument stands at the front
moved : (n b m i j : ℕ) → m ≡ n * b → 0 < b → 256 ^ j ≡ 256 ^ i * b → m / 256 ^ j % 256 ≡ n / 256 ^ i % 256
moved n b m i j e some f = ap (λ d. d % 256) (ap (λ d. d / 256 ^ j) e ∙ quotient n (256 ^ i) b (256 ^ j) some (sym f))

lowest : (n b m j : ℕ) → m ≡ n * b → 0 < b → 256 ^ j ≡ b → m / 256 ^ j % 256 ≡ n % 256
lowest n b m j e some f = ap (λ d. d % 256) (ap (λ d. d / 256 ^ j) e ∙ ap (λ d. n * b / d) f ∙ mul-div_cancel n some)

bytes_2 : (n : ℕ) → n < 2 ^ 16 → take 2 (to_be_bytes w64 (n * 2 ^ 48 % 2 ^ 64)) ≡ to_be_bytes w16 n
bytes_2 n h =
    let fits : n * 2 ^ 48 % 2 ^ 64 ≡ n * 2 ^ 48 = mod-eq_of_lt (omega (arith, h)) in
    let some : 0 < 2 ^ 48 = omega arith in
    λ i. moved n (2 ^ 48) (n * 2 ^ 48 % 2 ^ 64) 1 7 fits some refl i ∷ lowest n (2 ^ 48) (n * 2 ^ 48 % 2 ^ 64) 6 fits some refl i ∷ []

bytes_4 : (n : ℕ) → n < 2 ^ 32 → take 4 (to_be_bytes w64 (n * 2 ^ 32 % 2 ^ 64)) ≡ to_be_bytes w32 n
bytes_4 n h =
    let fits : n * 2 ^ 32 % 2 ^ 64 ≡ n * 2 ^ 32 = mod-eq_of_lt (omega (arith, h)) in
    let some : 0 < 2 ^ 32 = omega arith in
    let m = n * 2 ^ 32 % 2 ^ 64 in
    λ i. moved n (2 ^ 32) m 3 7 fits some refl i ∷ moved n (2 ^ 32) m 2 6 fits some refl i ∷ moved n (2 ^ 32) m 1 5 fits some refl i ∷ lowest n (2 ^ 32) m 4 fits some refl i ∷ []

pub head_cut : (major n : ℕ) → n < 2 ^ 64 → take (1 + bytes_behind n) ((32 * major + low_bits n) ∷ to_be_bytes w64 (at_front n)) ≡ head major n
head_cut major n h = by (nat_lt n 24) (nat_lt n (2 ^ 8)) (nat_lt n (2 ^ 16)) (nat_lt n (2 ^ 32)) refl refl refl refl
  where
    by : (a b c d : Bool) → nat_lt n 24 ≡ a → nat_lt n (2 ^ 8) ≡ b → nat_lt n (2 ^ 16) ≡ c → nat_lt n (2 ^ 32) ≡ d → take (1 + bytes_behind n) ((32 * major + low_bits n) ∷ to_be_bytes w64 (at_front n)) ≡ head major n
    by true b c d p q r s = rw p refl
    by false true c d p q r s = rw (p, q) (ap (λ x. (32 * major + 24) ∷ x ∷ []) (byte_1 n (below n (2 ^ 8) q)))
    by false false true d p q r s = rw (p, q, r) (ap (λ xs. (32 * major + 25) ∷ xs) (bytes_2 n (below n (2 ^ 16) r)))
    by false false false true p q r s = rw (p, q, r, s) (ap (λ xs. (32 * major + 26) ∷ xs) (bytes_4 n (below n (2 ^ 32) s)))
    by false false false false p q r s = rw (p, q, r, s) (ap (λ m. (32 * major + 27) ∷ to_be_bytes w64 m) (ap (λ m. m % 2 ^ 64) (omega arith) ∙ mod-eq_of_lt h))

pub cut_off : (old longer new piece : List ℕ) (major n before low behind : ℕ) → n < 2 ^ 64 → new ≡ take (before + 1 + behind) longer → longer ≡ old ++ piece
    → piece ≡ (32 * major + low) ∷ to_be_bytes w64 (n * 2 ^ ((64 - 8 * behind) % 64) % 2 ^ 64) → before ≡ length old → low ≡ low_bits n → behind ≡ bytes_behind n → new ≡ old ++ head major n
cut_off old longer new piece major n before low behind h cut appended is all low_is behind_is =
    cut
    ∙ (λ i. take (all i + 1 + behind) (appended i))
    ∙ ap (λ k. take k (old ++ piece)) (omega arith)
    ∙ take-append-add old piece (1 + behind)
    ∙ ap (λ xs. old ++ take (1 + behind) xs) is
    ∙ (λ i. old ++ take (1 + behind_is i) ((32 * major + low_is i) ∷ to_be_bytes w64 (n * 2 ^ ((64 - 8 * behind_is i) % 64) % 2 ^ 64)))
    ∙ ap (λ xs. old ++ xs) (head_cut major n h)
