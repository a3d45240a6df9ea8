-- Counting the bits of a map byte by byte.
use Rattle.std.proofs.Common.{◌≡◌, ℕ, zero, suc, ◌+◌, ◌*◌, ◌/◌, ◌%◌, ◌^◌, ◌<◌, ◌≤◌, ◌==◌, true, cond, List, refl, sym, ap, ◌∙◌, arith, eqb}
use Rattle.std.specs.Prelude.{slice_index, count_ones, nat_le, ◌&&◌}
use Rattle.std.specs.Int.Count.{ones}
use Rattle.std.proofs.lemmas.Bool.{agree_below_at, eqb-true, leb-true, and_parts}
use Rattle.ild_typed.specs.NodeReading.{map_bit}
use Rattle.ild_node_slots.specs.inside.Reading.{byte_ones, ones_below}

-- by trying all bytes
counted : (b : ℕ) → b < 256 → (eqb (count_ones b) (byte_ones b 8) && nat_le (byte_ones b 8) 8) ≡ true
unfolding ones
counted b lt = agree_below_at (λ n. eqb (count_ones n) (byte_ones n 8) && nat_le (byte_ones n 8) 8) (λ n. true) 256 b refl lt

pub ones-of : (b : ℕ) → b < 256 → count_ones b ≡ byte_ones b 8
ones-of b lt = eqb-true (count_ones b) (byte_ones b 8) (and_parts (eqb (count_ones b) (byte_ones b 8)) (nat_le (byte_ones b 8) 8) (counted b lt)).0

pub ones-few : (b : ℕ) → b < 256 → count_ones b ≤ 8
ones-few b lt = let same = ones-of b lt in let few = leb-true (byte_ones b 8) 8 (and_parts (eqb (count_ones b) (byte_ones b 8)) (nat_le (byte_ones b 8) 8) (counted b lt)).1 in omega arith

-- the bits of one byte behind those of the bytes before it
pub ones-more : (m : List ℕ) (j k : ℕ) → k ≤ 8 → ones_below m (8 * j + k) ≡ ones_below m (8 * j) + byte_ones (slice_index m j) k
ones-more m j zero le = let z : 8 * j + 0 ≡ 8 * j = omega arith in ap (ones_below m) z ∙ none (ones_below m (8 * j))
  where
    none : (n : ℕ) → n ≡ n + 0
    none n = omega arith
ones-more m j (suc k) le =
    let next : 8 * j + suc k ≡ suc (8 * j + k) = omega arith in
    let byte_is : (8 * j + k) / 8 ≡ j = omega arith in
    let bit_is : (8 * j + k) % 8 ≡ k = omega arith in
    let here : cond (map_bit m (8 * j + k)) 1 0 ≡ cond (slice_index m j / 2 ^ k % 2 == 1) 1 0 = λ i. cond (slice_index m (byte_is i) / 2 ^ (bit_is i) % 2 == 1) 1 0 in
    ap (ones_below m) next ∙ (λ i. ones-more m j k (omega arith) i + here i) ∙ assoc (ones_below m (8 * j)) (byte_ones (slice_index m j) k) (cond (slice_index m j / 2 ^ k % 2 == 1) 1 0)
  where
    assoc : (a b c : ℕ) → a + b + c ≡ a + (b + c)
    assoc a b c = omega arith

pub ones-byte : (m : List ℕ) (j below n : ℕ) → below ≡ ones_below m (8 * j) → n ≡ byte_ones (slice_index m j) 8 → below + n ≡ ones_below m (8 * (j + 1))
ones-byte m j below n was here =
    let next : 8 * j + 8 ≡ 8 * (j + 1) = omega arith in
    (λ i. was i + here i) ∙ sym (ones-more m j 8 (omega arith)) ∙ ap (ones_below m) next

pub ones-at : (m : List ℕ) (j b : ℕ) → b ≡ slice_index m j → b < 256 → count_ones b ≡ byte_ones (slice_index m j) 8
ones-at m j b is lt = ones-of b lt ∙ ap (λ x. byte_ones x 8) is
