-- The map of a node tells which slots are used.
use Rattle.std.proofs.Common.{◌≡◌, ℕ, zero, suc, ◌+◌, ◌*◌, ◌/◌, ◌%◌, ◌^◌, ◌<◌, ◌==◌, Bool, true, false, cond, List, [], ◌∷◌, length, map, drop, take, get_or, refl, sym, ap, ◌∙◌, arith, eqb}
use Rattle.std.specs.List.{range_with_len}
use Rattle.std.proofs.lemmas.Bool.{eqb-true, eq-eqb, agree_below_at}
use Rattle.std.proofs.lemmas.List.{length-map, length-take, length-drop, get_or-map, get_or-take, get_or-drop, ext_get_or}
use Rattle.std.proofs.lemmas.List.FromFn.{get_or-map-range_with_len, length-map-range_with_len}
use Rattle.ild_data.specs.Bytes.{AreBytes}
use Rattle.ild_data.specs.Trie.{TrieSlot, empty, is_used, byte_of, map_of}
use Rattle.ild_hamt_trie.proofs.Bits.{bit_of-map}
use Rattle.ild_typed.specs.NodeReading.{map_bit, map_bits}

bit-is : (b : Bool) (n : ℕ) → n ≡ cond b 1 0 → (n == 1) ≡ b
bit-is true n is = eq-eqb n 1 is
bit-is false n is = rw is refl

-- the bits of the map are the used slots
pub bit-read : (slots : List TrieSlot) (i : ℕ) → length slots % 8 ≡ 0 → i < length slots → map_bit (map_of slots) i ≡ is_used (get_or slots i empty)
bit-read slots i whole lt = bit-is (is_used (get_or slots i empty)) (get_or (map_of slots) (i / 8) 0 / 2 ^ (i % 8) % 2) (bit_of-map slots i whole lt)

pub bits-read : (slots : List TrieSlot) → length slots % 8 ≡ 0 → map_bits (map_of slots) 0 (length slots) ≡ map is_used slots
bits-read slots whole =
    ext_get_or false _ _ (length-map-range_with_len (map_bit (map_of slots)) 0 (length slots) ∙ sym (length-map slots is_used))
    (λ i lt.
    let inside : i < length slots = omega (arith, length-map-range_with_len (map_bit (map_of slots)) 0 (length slots)) in
    get_or-map-range_with_len (map_bit (map_of slots)) 0 (length slots) i i false inside (omega arith)
    ∙ bit-read slots i whole inside ∙ sym (get_or-map is_used slots i empty false inside))

-- a byte is the number of its bits
eight_bits : ℕ → List Bool
eight_bits b = map (λ k. b / 2 ^ k % 2 == 1) (range_with_len 0 8)

eight-bits : (b : ℕ) → b < 256 → byte_of (eight_bits b) ≡ b
unfolding eight_bits
eight-bits b lt = eqb-true (byte_of (eight_bits b)) b (agree_below_at (λ n. eqb (byte_of (eight_bits n)) n) (λ n. true) 256 b refl lt)

byte-below : (m : List ℕ) (j : ℕ) → AreBytes m → j < length m → get_or m j 0 < 256
byte-below [] j all lt = absurd (omega arith)
byte-below (b ∷ m) zero all lt = all.0
byte-below (b ∷ m) (suc j) all lt = byte-below m j all.1 (omega arith)

-- the map of slots that are used by the bits of m is m
pub map-taken : (slots : List TrieSlot) (m : List ℕ) → AreBytes m → length slots ≡ 8 * length m → map is_used slots ≡ map_bits m 0 (length slots) → map_of slots ≡ m
unfolding eight_bits
map-taken slots m all long used =
    ext_get_or 0 (map_of slots) m (length-map-range_with_len (λ j. byte_of (map is_used (take 8 (drop (8 * j) slots)))) 0 (length slots / 8) ∙ omega arith)
    (λ j lt.
    let rows : j < length slots / 8 = omega (arith, length-map-range_with_len (λ j. byte_of (map is_used (take 8 (drop (8 * j) slots)))) 0 (length slots / 8)) in
    let inside : j < length m = omega arith in
    let row : List TrieSlot = take 8 (drop (8 * j) slots) in
    let row_long : length row ≡ 8 = omega (arith, length-take 8 (drop (8 * j) slots), length-drop (8 * j) slots) in
    get_or-map-range_with_len (λ j. byte_of (map is_used (take 8 (drop (8 * j) slots)))) 0 (length slots / 8) j j 0 rows (omega arith)
    ∙ ap byte_of
    (ext_get_or false (map is_used row) (eight_bits (get_or m j 0))
    (length-map row is_used ∙ row_long ∙ sym (length-map-range_with_len (λ k. get_or m j 0 / 2 ^ k % 2 == 1) 0 8))
    (λ k k_lt.
    let k_in : k < 8 = omega (arith, length-map row is_used) in
    let at : 8 * j + k < length slots = omega arith in
    let row_at : (8 * j + k) / 8 ≡ j = omega arith in
    let bit_at : (8 * j + k) % 8 ≡ k = omega arith in
    get_or-map is_used row k empty false (omega arith)
    ∙ ap is_used (get_or-take 8 (drop (8 * j) slots) k empty k_in ∙ get_or-drop (8 * j) slots k empty)
    ∙ sym (get_or-map is_used slots (8 * j + k) empty false at)
    ∙ ap (λ bs. get_or bs (8 * j + k) false) used
    ∙ get_or-map-range_with_len (map_bit m) 0 (length slots) (8 * j + k) (8 * j + k) false at (omega arith)
    ∙ (λ i. get_or m (row_at i) 0 / 2 ^ (bit_at i) % 2 == 1)
    ∙ sym (get_or-map-range_with_len (λ k. get_or m j 0 / 2 ^ k % 2 == 1) 0 8 k k false k_in (omega arith))))
    ∙ eight-bits (get_or m j 0) (byte-below m j all inside))
