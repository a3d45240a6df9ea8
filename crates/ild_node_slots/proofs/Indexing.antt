-- Bits of a hash that stand in two bytes, as a piece of the number of both.
use Rattle.std.proofs.Common.{◌≡◌, ℕ, zero, suc, ◌+◌, ◌-◌, ◌*◌, ◌/◌, ◌%◌, ◌^◌, ◌<◌, ◌≤◌, List, sym, ap, ◌∙◌, ⊎_elim, arith}
use Rattle.std.specs.Prelude.{slice_index}
use Rattle.std.proofs.lemmas.Bool.{cases_lt}
use Rattle.std.proofs.lemmas.Nat.{div-add-mod', mod-pow-add, one_shl, row_fits, shr-shr}
use Rattle.std.proofs.lemmas.Nat.Bits.{bit_at_cat_low, bit_at_cat_high}
use Rattle.ild_data.specs.TrieShape.{bit_at, bits_at}

-- the number of a byte and the one behind it
abbrev pub two_bytes : List ℕ → ℕ → ℕ
two_bytes hash j = slice_index hash j * 2 ^ 8 + slice_index hash (j + 1)

bit_is : (hash : List ℕ) (n j k : ℕ) → n / 8 ≡ j → 7 - n % 8 ≡ k → bit_at hash n ≡ slice_index hash j / 2 ^ k % 2
bit_is hash n j k row place = λ i. slice_index hash (row i) / 2 ^ (place i) % 2

bit-pair : (hash : List ℕ) (j i : ℕ) → slice_index hash (j + 1) < 256 → i < 16 → bit_at hash (8 * j + i) ≡ two_bytes hash j / 2 ^ (15 - i) % 2
bit-pair hash j i byte lt = ⊎_elim
    (λ low.
    let e : 15 - i - 8 ≡ 7 - (8 * j + i) % 8 = omega (arith, low) in
    bit_is hash (8 * j + i) j (15 - i - 8) (omega (arith, low)) (sym e) ∙ sym (bit_at_cat_high (slice_index hash j) 8 (slice_index hash (j + 1)) (15 - i) byte (omega (arith, low))))
    (λ high.
    bit_is hash (8 * j + i) (j + 1) (15 - i) (omega (arith, high, lt)) (omega (arith, high, lt)) ∙ sym (bit_at_cat_low (slice_index hash j) 8 (slice_index hash (j + 1)) (15 - i) (omega (arith, high, lt))))
    (cases_lt i 8)

pub bits-pair : (hash : List ℕ) (j i count : ℕ) → slice_index hash (j + 1) < 256 → i + count ≤ 16 → bits_at hash (8 * j + i) count ≡ two_bytes hash j / 2 ^ (16 - i - count) % 2 ^ count
bits-pair hash j i zero byte le = none (two_bytes hash j / 2 ^ (16 - i - 0))
  where
    none : (n : ℕ) → 0 ≡ n % 1
    none n = omega arith
bits-pair hash j i (suc count) byte le =
    let n : ℕ = two_bytes hash j / 2 ^ (16 - i - suc count) in
    let next : 8 * j + i + 1 ≡ 8 * j + (i + 1) = omega arith in
    let places : 16 - i - suc count + count ≡ 15 - i = omega (arith, le) in
    let left : 16 - (i + 1) - count ≡ 16 - i - suc count = omega (arith, le) in
    let first : bit_at hash (8 * j + i) ≡ n / 2 ^ count % 2 =
    bit-pair hash j i byte (omega (arith, le)) ∙ ap (λ k. two_bytes hash j / 2 ^ k % 2) (sym places) ∙ ap (λ m. m % 2) (sym (shr-shr (two_bytes hash j) (16 - i - suc count) count)) in
    let rest : bits_at hash (8 * j + i + 1) count ≡ n % 2 ^ count =
    ap (λ f. bits_at hash f count) next ∙ bits-pair hash j (i + 1) count byte (omega (arith, le)) ∙ ap (λ k. two_bytes hash j / 2 ^ k % 2 ^ count) left in
    let one : 1 + count ≡ suc count = omega arith in
    (λ k. 2 ^ count * first k + rest k) ∙ turned (2 ^ count) (n / 2 ^ count % 2) (n % 2 ^ count) ∙ sym (mod-pow-add n 1 count) ∙ ap (λ c. n % 2 ^ c) one
  where
    turned : (a b c : ℕ) → a * b + c ≡ b * a + c
    turned a b c = omega arith

-- wherever they begin
pub bits-read : (hash : List ℕ) (from count n : ℕ) → count ≤ 8 → slice_index hash (from / 8 + 1) < 256 → n ≡ two_bytes hash (from / 8)
    → n / 2 ^ (16 - from % 8 - count) % (1 * 2 ^ count % 2 ^ 32) ≡ bits_at hash from count
bits-read hash from count n few byte is =
    let place : 8 * (from / 8) + from % 8 ≡ from = omega arith in
    (λ i. is i / 2 ^ (16 - from % 8 - count) % one_shl count 32 (omega (arith, few)) i)
    ∙ sym (bits-pair hash (from / 8) (from % 8) count byte (omega (arith, few))) ∙ ap (λ f. bits_at hash f count) place

-- the bits of an index at a depth that there is
pub depth-fits : (w d : ℕ) → d < 256 / w → d * w + w ≤ 256
depth-fits w d lt = let fits = row_fits d w (256 / w) w lt (omega arith) in let whole = div-add-mod' 256 w in omega (arith, fits, whole)
