-- An index is below the number of slots.
use Rattle.std.proofs.Common.{◌≡◌, ℕ, zero, suc, ◌+◌, ◌-◌, ◌*◌, true, eqb, refl, sym, ap, ◌∙◌, slice_index, ◌^◌, ◌%◌, ◌/◌, ◌<◌, List, arith}
use Rattle.std.proofs.lemmas.Nat.{mod_below}
use Rattle.std.proofs.lemmas.Bool.{agree_below_at, eqb-true}
use native.Mathlib.Numerals.{unary_clauses}
use Rattle.ild_data.specs.declared.hamt_shape.HamtShape.{HamtShape}
use Rattle.ild_data.specs.TrieShape.{bit_at, bits_at, index}

step_below : (m b r : ℕ) → b < 2 → r < m → m * b + r < 2 * m
step_below m zero r b_lt r_lt = omega arith
step_below m (suc zero) r b_lt r_lt = omega arith
step_below m (suc (suc b)) r b_lt r_lt = absurd (omega arith)

pub bits_below : (bytes : List ℕ) (from count : ℕ) → bits_at bytes from count < 2 ^ count
bits_below bytes from zero = omega arith
bits_below bytes from (suc count) = let e : 2 ^ suc count ≡ 2 * 2 ^ count = simp unary_clauses (omega arith) in rw e (step_below (2 ^ count) (bit_at bytes from) (bits_at bytes (from + 1) count) (mod_below _ 2 (omega arith)) (bits_below bytes (from + 1) count))

pub index_below : (p : HamtShape) (hash : List ℕ) (depth : ℕ) → index p hash depth < 2 ^ p.width
index_below p hash depth = bits_below hash (depth * p.width) p.width

-- one bit more, at the end
pub bits_more : (bytes : List ℕ) (from count : ℕ) → bits_at bytes from (count + 1) ≡ 2 * bits_at bytes from count + bit_at bytes (from + count)
bits_more bytes from zero = let e : from + 0 ≡ from = omega arith in rw e (omega arith)
bits_more bytes from (suc count) =
    let e : suc count + 1 ≡ suc (suc count) = omega arith in
    let f : from + suc count ≡ (from + 1) + count = omega arith in
    let g : count + 1 ≡ suc count = omega arith in
    let pow : 2 ^ suc count ≡ 2 * 2 ^ count = simp unary_clauses (omega arith) in
    let rest = bits_more bytes (from + 1) count in
    rw (e, f, pow) (doubled (2 ^ count) (bit_at bytes from) (bits_at bytes (from + 1) count) (bits_at bytes (from + 1) (suc count)) _ (ap (bits_at bytes (from + 1)) (sym g) ∙ rest))
  where
    doubled : (m b r s t : ℕ) → s ≡ 2 * r + t → 2 * m * b + s ≡ 2 * (m * b + r) + t
    doubled m b r s t e = omega (arith, e)

-- at width 8 the index is the byte at the depth
eight : ℕ → ℕ
eight b = 128 * (b / 128 % 2) + (64 * (b / 64 % 2) + (32 * (b / 32 % 2) + (16 * (b / 16 % 2) + (8 * (b / 8 % 2) + (4 * (b / 4 % 2) + (2 * (b / 2 % 2) + (1 * (b / 1 % 2) + 0)))))))

eight_is : (b : ℕ) → b < 256 → eight b ≡ b
unfolding eight
eight_is b lt = eqb-true (eight b) b (agree_below_at (λ n. eqb (eight n) n) (λ n. true) 256 b refl lt)

bit_of : (hash : List ℕ) (d n j : ℕ) → n ≡ d * 8 + j → j < 8 → bit_at hash n ≡ slice_index hash d / 2 ^ (7 - j) % 2
bit_of hash d n j e lt =
    let row : n / 8 ≡ d = omega (arith, e) in
    let place : n % 8 ≡ j = omega (arith, e) in
    rw (row, place) refl

pub index-byte : (p : HamtShape) (hash : List ℕ) (depth : ℕ) → p.width ≡ 8 → slice_index hash depth < 256 → index p hash depth ≡ slice_index hash depth
unfolding eight
index-byte p hash depth w lt =
    let n : ℕ = depth * 8 in
    let b0 : bit_at hash n ≡ slice_index hash depth / 128 % 2 = bit_of hash depth n 0 (omega arith) (omega arith) in
    let b1 : bit_at hash (n + 1) ≡ slice_index hash depth / 64 % 2 = bit_of hash depth (n + 1) 1 (omega arith) (omega arith) in
    let b2 : bit_at hash (n + 1 + 1) ≡ slice_index hash depth / 32 % 2 = bit_of hash depth (n + 1 + 1) 2 (omega arith) (omega arith) in
    let b3 : bit_at hash (n + 1 + 1 + 1) ≡ slice_index hash depth / 16 % 2 = bit_of hash depth (n + 1 + 1 + 1) 3 (omega arith) (omega arith) in
    let b4 : bit_at hash (n + 1 + 1 + 1 + 1) ≡ slice_index hash depth / 8 % 2 = bit_of hash depth (n + 1 + 1 + 1 + 1) 4 (omega arith) (omega arith) in
    let b5 : bit_at hash (n + 1 + 1 + 1 + 1 + 1) ≡ slice_index hash depth / 4 % 2 = bit_of hash depth (n + 1 + 1 + 1 + 1 + 1) 5 (omega arith) (omega arith) in
    let b6 : bit_at hash (n + 1 + 1 + 1 + 1 + 1 + 1) ≡ slice_index hash depth / 2 % 2 = bit_of hash depth (n + 1 + 1 + 1 + 1 + 1 + 1) 6 (omega arith) (omega arith) in
    let b7 : bit_at hash (n + 1 + 1 + 1 + 1 + 1 + 1 + 1) ≡ slice_index hash depth / 1 % 2 = bit_of hash depth (n + 1 + 1 + 1 + 1 + 1 + 1 + 1) 7 (omega arith) (omega arith) in
    rw w ((λ i. 128 * b0 i + (64 * b1 i + (32 * b2 i + (16 * b3 i + (8 * b4 i + (4 * b5 i + (2 * b6 i + (1 * b7 i + 0)))))))) ∙ eight_is (slice_index hash depth) lt)
