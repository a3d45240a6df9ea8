-- The bytes of a map to which one bit more is added.
use Rattle.std.proofs.Common.{◌≡◌, ℕ, zero, suc, ◌+◌, ◌*◌, ◌/◌, ◌%◌, ◌<◌, ◌≤◌, ◌^◌, Bool, true, false, cond, List, [], ◌∷◌, ◌++◌, length, map, take, drop, get_or, set, replicate, refl, sym, ap, ◌∙◌, arith, ⊎_elim}
use Rattle.std.specs.List.{range_with_len}
use Rattle.std.specs.Int.Bits.{bit_or, or_shifted_r}
use Rattle.std.proofs.Math.Nat.{pow-succ'}
use Rattle.std.proofs.lemmas.Bool.{cases_lt}
use Rattle.std.proofs.lemmas.Grind.{one_shifted}
use Rattle.std.proofs.lemmas.List.{take_all, drop_all, length-drop, take-append-le, drop-append-le}
use Rattle.std.proofs.lemmas.List.FromFn.{get_or-map-range_with_len}
use Rattle.ild_data.specs.Trie.{byte_of}
use Rattle.ild_data.specs.declared.hamt_shape.HamtShape.{HamtShape}
use Rattle.ild_node_slots.proofs.Shapes.{pow_few}
use Rattle.ild_node.specs.Drafts.{map_so_far}
use Rattle.ild_node.specs.Written.{bytes_of_bits}

-- ---- one byte

abbrev number : Bool → ℕ
number b = cond b 1 0

twice : (a b k : ℕ) → a + 2 * (b + 2 ^ k) ≡ (a + 2 * b) + 2 ^ suc k
twice a b k = let p = pow-succ' 2 k in omega (arith, p)

one-behind : (ys : List Bool) → byte_of (ys ++ true ∷ []) ≡ byte_of ys + 2 ^ length ys
one-behind [] = refl
one-behind (y ∷ ys) = ap (λ n. number y + 2 * n) (one-behind ys) ∙ twice (number y) (byte_of ys) (length ys)

none-behind : (ys : List Bool) → byte_of (ys ++ false ∷ []) ≡ byte_of ys
none-behind [] = refl
none-behind (y ∷ ys) = ap (λ n. number y + 2 * n) (none-behind ys)

one_bit : (b : Bool) → number b ≤ 1
one_bit true = omega arith
one_bit false = omega arith

small : (ys : List Bool) → byte_of ys < 2 ^ length ys
small [] = omega arith
small (y ∷ ys) = let p = pow-succ' 2 (length ys) in let b = one_bit y in let s = small ys in omega (arith, p, b, s)

-- ---- the byte of each place

abbrev piece : List Bool → ℕ → List Bool
piece bits j = take 8 (drop (8 * j) bits)

-- the places before that of the next bit, and those behind it
before : (bits : List Bool) (b : Bool) (j : ℕ) → j < length bits / 8 → piece bits j ≡ piece (bits ++ b ∷ []) j
before bits b j lt =
    let inside : 8 * j + 8 ≤ length bits = omega (arith, lt) in
    let long = length-drop (8 * j) bits in
    sym (ap (take 8) (drop-append-le (8 * j) bits (b ∷ []) (omega (arith, inside))) ∙ take-append-le 8 (drop (8 * j) bits) (b ∷ []) (omega (arith, inside, long)))

one_more : (bits : List Bool) (b : Bool) → length (bits ++ b ∷ []) ≡ suc (length bits)
one_more [] b = refl
one_more (x ∷ bits) b = ap suc (one_more bits b)

behind : (bits : List Bool) (b : Bool) (j : ℕ) → length bits / 8 < j → piece bits j ≡ piece (bits ++ b ∷ []) j
behind bits b j lt =
    let more = one_more bits b in
    let outside : length bits < 8 * j = omega (arith, lt) in
    ap (take 8) (drop_all (8 * j) bits (omega (arith, outside)) ∙ sym (drop_all (8 * j) (bits ++ b ∷ []) (omega (arith, outside, more))))

abbrev rest : List Bool → List Bool
rest bits = drop (8 * (length bits / 8)) bits

rest-length : (bits : List Bool) → length (rest bits) ≡ length bits % 8
rest-length bits = let long = length-drop (8 * (length bits / 8)) bits in omega (arith, long)

at-rest : (bits : List Bool) → piece bits (length bits / 8) ≡ rest bits
at-rest bits = let long = rest-length bits in take_all 8 (rest bits) (omega (arith, long))

at-more : (bits : List Bool) (b : Bool) → piece (bits ++ b ∷ []) (length bits / 8) ≡ rest bits ++ b ∷ []
at-more bits b =
    let long = rest-length bits in
    let more = one_more (rest bits) b in
    ap (take 8) (drop-append-le (8 * (length bits / 8)) bits (b ∷ []) (omega arith)) ∙ take_all 8 (rest bits ++ b ∷ []) (omega (arith, long, more))

-- ---- the whole map

same-above : (f g : ℕ → ℕ) (place a n : ℕ) → place < a → ((j : ℕ) → place < j → f j ≡ g j) → map f (range_with_len a n) ≡ map g (range_with_len a n)
same-above f g place a zero lt above = refl
same-above f g place a (suc n) lt above = λ j. above a lt j ∷ same-above f g place (a + 1) n (omega (arith, lt)) above j

set-one : (f g : ℕ → ℕ) (place a n q v : ℕ) → place ≡ a + q → q < n → ((j : ℕ) → j < place → f j ≡ g j) → ((j : ℕ) → place < j → f j ≡ g j) → v ≡ g place
    → set (map f (range_with_len a n)) q v ≡ map g (range_with_len a n)
set-one f g place a zero q v is lt below above here = absurd (omega (arith, lt))
set-one f g place a (suc n) zero v is lt below above here =
    let same : place ≡ a = omega (arith, is) in
    λ j. (here ∙ ap g same) j ∷ same-above f g place (a + 1) n (omega (arith, same)) above j
set-one f g place a (suc n) (suc q) v is lt below above here =
    λ j. below a (omega (arith, is)) j ∷ set-one f g place (a + 1) n q v (omega (arith, is)) (omega (arith, lt)) below above here j

all-same : (f g : ℕ → ℕ) (a n : ℕ) → ((j : ℕ) → f j ≡ g j) → map f (range_with_len a n) ≡ map g (range_with_len a n)
all-same f g a zero each = refl
all-same f g a (suc n) each = λ j. each a j ∷ all-same f g (a + 1) n each j

abbrev so-far : ℕ → List Bool → List ℕ
so-far n bits = map (λ j. byte_of (piece bits j)) (range_with_len 0 n)

so-far-is : (bits : List Bool) → map_so_far bits ≡ so-far 32 bits
unfolding map_so_far
so-far-is bits = refl

so-far-skip : (n : ℕ) (bits : List Bool) → so-far n bits ≡ so-far n (bits ++ false ∷ [])
so-far-skip n bits = all-same (λ j. byte_of (piece bits j)) (λ j. byte_of (piece (bits ++ false ∷ []) j)) 0 n each
  where
    here : byte_of (piece bits (length bits / 8)) ≡ byte_of (piece (bits ++ false ∷ []) (length bits / 8))
    here = ap byte_of (at-rest bits) ∙ sym (ap byte_of (at-more bits false) ∙ none-behind (rest bits))

    each : (j : ℕ) → byte_of (piece bits j) ≡ byte_of (piece (bits ++ false ∷ []) j)
    each j = ⊎_elim (λ lt. ap byte_of (before bits false j lt))
        (λ le. ⊎_elim (λ lt. ap byte_of (behind bits false j lt))
        (λ ge. let same : length bits / 8 ≡ j = omega (arith, le, ge) in ap (λ k. byte_of (piece bits k)) (sym same) ∙ here ∙ ap (λ k. byte_of (piece (bits ++ false ∷ []) k)) same)
        (cases_lt (length bits / 8) j))
        (cases_lt j (length bits / 8))

so-far-set : (n : ℕ) (bits : List Bool) (i old v : ℕ) (was new : List ℕ) → length bits ≡ i → i / 8 < n → was ≡ so-far n bits → old ≡ get_or was (i / 8) 0 → v ≡ bit_or old (1 * 2 ^ (i % 8) % 256) → new ≡ set was (i / 8) v
    → new ≡ so-far n (bits ++ true ∷ [])
so-far-set n bits i old v was new long eighth is read sets writes =
    let f : ℕ → ℕ = λ j. byte_of (piece bits j) in
    let place : i / 8 ≡ length bits / 8 = ap (λ n. n / 8) (sym long) in
    let value : old ≡ byte_of (rest bits) =
    read ∙ ap (λ m. get_or m (i / 8) 0) is ∙ get_or-map-range_with_len f 0 n (i / 8) (i / 8) 0 eighth (omega arith) ∙ ap f place ∙ ap byte_of (at-rest bits) in
    let mask : 1 * 2 ^ (i % 8) % 256 ≡ 1 * 2 ^ length (rest bits) =
    (one_shifted (i % 8) 255 refl (omega arith)).0 ∙ ap (λ n. 2 ^ (n % 8)) (sym long) ∙ ap (λ n. 2 ^ n) (sym (rest-length bits)) ∙ one_times (2 ^ length (rest bits)) in
    let result : v ≡ byte_of (piece (bits ++ true ∷ []) (length bits / 8)) =
    sets ∙ (λ j. bit_or (value j) (mask j)) ∙ or_shifted_r 1 (length (rest bits)) (byte_of (rest bits)) (small (rest bits))
    ∙ turn (2 ^ length (rest bits)) (byte_of (rest bits)) ∙ sym (one-behind (rest bits)) ∙ ap byte_of (sym (at-more bits true)) in
    writes ∙ (λ j. set (is j) (place j) v)
    ∙ set-one f (λ j. byte_of (piece (bits ++ true ∷ []) j)) (length bits / 8) 0 n (length bits / 8) v (omega arith) (omega (arith, place, eighth))
    (λ j less. ap byte_of (before bits true j less)) (λ j more. ap byte_of (behind bits true j more)) result
  where
    one_times : (n : ℕ) → n ≡ 1 * n
    one_times n = omega arith

    turn : (p b : ℕ) → 1 * p + b ≡ b + p
    turn p b = omega arith

-- no bit yet
pub map-none : (m : List ℕ) → m ≡ replicate 32 0 → m ≡ map_so_far []
unfolding map_so_far
map-none m is = is

-- a bit that isn't set
pub map-skip : (bits : List Bool) → map_so_far bits ≡ map_so_far (bits ++ false ∷ [])
map-skip bits = so-far-is bits ∙ so-far-skip 32 bits ∙ sym (so-far-is (bits ++ false ∷ []))

-- a bit that is set
pub map-set : (bits : List Bool) (i old v : ℕ) (was new : List ℕ) → length bits ≡ i → i < 256 → was ≡ map_so_far bits → old ≡ get_or was (i / 8) 0 → v ≡ bit_or old (1 * 2 ^ (i % 8) % 256) → new ≡ set was (i / 8) v
    → new ≡ map_so_far (bits ++ true ∷ [])
map-set bits i old v was new long lt is read sets writes =
    so-far-set 32 bits i old v was new long (omega (arith, lt)) (is ∙ so-far-is bits) read sets writes ∙ sym (so-far-is (bits ++ true ∷ []))

first-few : (f : ℕ → ℕ) (a n m : ℕ) → n ≤ m → take n (map f (range_with_len a m)) ≡ map f (range_with_len a n)
first-few f a zero m le = refl
first-few f a (suc n) zero le = absurd (omega (arith, le))
first-few f a (suc n) (suc m) le = ap (λ ns. f a ∷ ns) (first-few f (a + 1) n m (omega (arith, le)))

-- all bits
pub map-whole : (p : HamtShape) (bits : List Bool) → length bits ≡ 2 ^ p.width → take (2 ^ p.width / 8) (map_so_far bits) ≡ bytes_of_bits bits
map-whole p bits many =
    let few = pow_few p in
    ap (take (2 ^ p.width / 8)) (so-far-is bits) ∙ first-few (λ j. byte_of (piece bits j)) 0 (2 ^ p.width / 8) 32 (omega (arith, few)) ∙ ap (λ n. so-far (n / 8) bits) (sym many)
