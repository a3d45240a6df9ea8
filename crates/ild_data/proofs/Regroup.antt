-- Bits joined and cut, and their groups of five.
use Rattle.std.proofs.Common.{◌≡◌, ℕ, zero, suc, ◌+◌, ◌*◌, ◌-◌, ◌/◌, ◌%◌, ◌^◌, ◌<◌, ◌≤◌, List, [], ◌∷◌, ◌++◌, length, drop, map, refl, ap, sym, ◌∙◌, arith, append_assoc, length-append, add-suc, subst}
use Rattle.std.proofs.Math.Nat.{two-pow-succ, div-mul-le_self, lt-div-mul-add, mul-le-mul_right, mod-eq_of_lt}
use Rattle.std.proofs.Math.Pow.{pow_mono}
use Rattle.std.proofs.lemmas.Nat.{shl_below, shr_below, pow_pos, pow-add}
use Rattle.std.proofs.lemmas.List.{append-nil, drop_all}
use Rattle.ild_data.specs.Base32.{bits, fives, letter, letters, bytes_bits, five}

-- there are as many as were asked for
pub length-bits : (w n : ℕ) → length (bits w n) ≡ w
unfolding bits
length-bits zero n = refl
length-bits (suc w) n = length-append (bits w (n / 2)) (n % 2 ∷ []) ∙ ap (λ k. k + 1) (length-bits w (n / 2)) ∙ omega arith

pub no_bits : (n : ℕ) → bits 0 n ≡ []
unfolding bits
no_bits n = refl

-- a number of two parts, halved
half_of : (z y : ℕ) → (2 * z + y) / 2 ≡ z + y / 2
half_of z y = omega arith

odd_of : (z y : ℕ) → (2 * z + y) % 2 ≡ y % 2
odd_of z y = omega arith

doubled : (x p : ℕ) → x * (p + p) ≡ 2 * (x * p)
doubled x p = grind arith

whole_of : (x y : ℕ) → y < 1 → x * 1 + y ≡ x
whole_of x y lt = omega arith

halved : (p y : ℕ) → y < p + p → y / 2 < p
halved p y lt = omega arith

plus_none : (a : ℕ) → a + 0 ≡ a
plus_none a = omega arith

-- the bits of two numbers in a row are those of one
pub bits-join : (a b x y : ℕ) → y < 2 ^ b → bits (a + b) (x * 2 ^ b + y) ≡ bits a x ++ bits b y
unfolding bits
bits-join a zero x y lt = rw (whole_of x y lt, plus_none a, append-nil) refl
bits-join a (suc b) x y lt =
    let d : x * 2 ^ suc b + y ≡ 2 * (x * 2 ^ b) + y = ap (λ n. n + y) (ap (λ n. x * n) (two-pow-succ b) ∙ doubled x (2 ^ b)) in
    let less : y / 2 < 2 ^ b = halved (2 ^ b) y (subst (λ n. y < n) (two-pow-succ b) lt) in
    rw (add-suc, d, half_of, odd_of, bits-join a b x (y / 2) less, append_assoc) refl

-- the part behind a cut
pub cut_below : (n p : ℕ) → 0 < p → n - n / p * p < p
cut_below n p pos = let h : n < n / p * p + p = lt-div-mul-add pos in omega (arith, div-mul-le_self n p)

cut_sum : (n p : ℕ) → n / p * p + (n - n / p * p) ≡ n
cut_sum n p = omega (arith, div-mul-le_self n p)

-- bits cut in two
pub bits-cut : (w k n : ℕ) → bits (w + k) n ≡ bits w (n / 2 ^ k) ++ bits k (n - n / 2 ^ k * 2 ^ k)
bits-cut w k n = ap (bits (w + k)) (sym (cut_sum n (2 ^ k))) ∙ bits-join w k (n / 2 ^ k) (n - n / 2 ^ k * 2 ^ k) (cut_below n (2 ^ k) (pow_pos k))

pub bits-pull : (w c n : ℕ) → w ≤ c → bits c n ≡ bits w (n / 2 ^ (c - w)) ++ bits (c - w) (n - n / 2 ^ (c - w) * 2 ^ (c - w))
bits-pull w c n le = let e : c ≡ w + (c - w) = omega arith in ap (λ m. bits m n) e ∙ bits-cut w (c - w) n

pub pull_small : (w c n : ℕ) → w ≤ c → n < 2 ^ c → n / 2 ^ (c - w) < 2 ^ w
pull_small w c n le lt = let e : c ≡ w + (c - w) = omega arith in shr_below n w (c - w) (subst (λ m. n < 2 ^ m) e lt)

-- a number behind another one
join_room : (p q x y : ℕ) → x < p → y < q → x * q + y < p * q
join_room p q x y lt less = let le : x + 1 ≤ p = omega arith in let h : (x + 1) * q ≤ p * q = mul-le-mul_right q le in let e : (x + 1) * q ≡ x * q + q = grind arith in omega arith

pub join_below : (a b x y : ℕ) → x < 2 ^ a → y < 2 ^ b → x * 2 ^ b + y < 2 ^ (a + b)
join_below a b x y lt less = rw pow-add (join_room (2 ^ a) (2 ^ b) x y lt less)

-- as many bits as the list that they are
pub bits_len : (c n : ℕ) (bs : List ℕ) → bits c n ≡ bs → length bs ≡ c
bits_len c n bs e = ap length (sym e) ∙ length-bits c n

-- no bit is lost below 2^32
pub kept : (n c : ℕ) → n < 2 ^ c → c ≤ 32 → n % 4294967296 ≡ n
kept n c lt le = let h : 2 ^ c ≤ 4294967296 = pow_mono le in mod-eq_of_lt (omega arith)

kept_cut : (n p c : ℕ) → n < 2 ^ c → c ≤ 32 → n / p * p % 4294967296 ≡ n / p * p
kept_cut n p c lt le = let h : n / p * p ≤ n = div-mul-le_self n p in kept (n / p * p) c (omega arith) le

pub pulled : (w c n : ℕ) (bs : List ℕ) → bits c n ≡ bs → w ≤ length bs → n < 2 ^ c → c < 16
    → bs ≡ bits w (n / 2 ^ (c - w)) ++ bits (c - w) (n - n / 2 ^ (c - w) * 2 ^ (c - w) % 4294967296)
pulled w c n bs is le lt short =
    let e : length bs ≡ c = bits_len c n bs is in
    rw (kept_cut n (2 ^ (c - w)) c lt (omega arith)) (sym is ∙ bits-pull w c n (omega arith))

pub pulled_below : (w c n : ℕ) → n < 2 ^ c → c < 16 → n - n / 2 ^ (c - w) * 2 ^ (c - w) % 4294967296 < 2 ^ (c - w)
pulled_below w c n lt short = rw (kept_cut n (2 ^ (c - w)) c lt (omega arith)) (cut_below n (2 ^ (c - w)) (pow_pos (c - w)))

kept_shift : (c w n : ℕ) → n < 2 ^ c → c + w < 16 → n * 2 ^ w % 4294967296 ≡ n * 2 ^ w
kept_shift c w n lt short = kept (n * 2 ^ w) (c + w) (shl_below n c w lt) (omega arith)

pub pushed : (c n w x : ℕ) (bs : List ℕ) → bits c n ≡ bs → n < 2 ^ c → x < 2 ^ w → length bs + w < 16
    → bits (c + w) (n * 2 ^ w % 4294967296 + x) ≡ bs ++ bits w x
pushed c n w x bs is lt less short =
    let e : length bs ≡ c = bits_len c n bs is in
    rw (kept_shift c w n lt (omega arith)) (bits-join c w n x less ∙ ap (λ b. b ++ bits w x) is)

pub pushed_below : (c n w x : ℕ) → n < 2 ^ c → x < 2 ^ w → c + w < 16 → n * 2 ^ w % 4294967296 + x < 2 ^ (c + w)
pushed_below c n w x lt less short = rw (kept_shift c w n lt short) (join_below c w n x lt less)

five_of : (v : ℕ) → v < 32 → five (v / 2 / 2 / 2 / 2 % 2) (v / 2 / 2 / 2 % 2) (v / 2 / 2 % 2) (v / 2 % 2) (v % 2) ≡ v
five_of v lt = omega arith

-- five bits make a number below 32
pub fives-five : (v : ℕ) (rest : List ℕ) → v < 32 → fives (bits 5 v ++ rest) ≡ v ∷ fives rest
unfolding bits fives
fives-five v rest lt = ap (λ n. n ∷ fives rest) (five_of v lt)

pub letters-five : (v : ℕ) (rest : List ℕ) → v < 32 → letters (bits 5 v ++ rest) ≡ letter v ∷ letters rest
letters-five v rest lt = ap (map letter) (fives-five v rest lt)

-- zero bits fill the last group
pub fives-filled : (bs : List ℕ) → 0 < length bs → length bs < 5 → fives (bs ++ bits (5 - length bs) 0) ≡ fives bs
unfolding bits fives
fives-filled [] pos lt = absurd (omega arith)
fives-filled (a ∷ []) pos lt = refl
fives-filled (a ∷ b ∷ []) pos lt = refl
fives-filled (a ∷ b ∷ c ∷ []) pos lt = refl
fives-filled (a ∷ b ∷ c ∷ d ∷ []) pos lt = refl
fives-filled (a ∷ b ∷ c ∷ d ∷ e ∷ bs) pos lt = absurd (omega arith)

-- a letter written for the first five bits
pub letter_written : (out out' held held' : List ℕ) (n : ℕ) → out' ≡ out ++ letter n ∷ [] → held ≡ bits 5 n ++ held' → n < 32
    → (rest : List ℕ) → out' ++ letters (held' ++ rest) ≡ out ++ letters (held ++ rest)
letter_written out out' held held' n is was lt rest =
    let e : letters (held ++ rest) ≡ letter n ∷ letters (held' ++ rest)
    = ap letters (ap (λ b. b ++ rest) was ∙ append_assoc (bits 5 n) held' rest) ∙ letters-five n (held' ++ rest) lt in
    rw (is, e, append_assoc) refl

pub pulled_len : (w n : ℕ) (old new : List ℕ) → old ≡ bits w n ++ new → length new + w ≡ length old
pulled_len w n old new is = let e : length old ≡ w + length new = ap length is ∙ length-append (bits w n) new ∙ ap (λ k. k + length new) (length-bits w n) in omega (arith, e)

pub no_letters : letters [] ≡ []
unfolding fives
no_letters = refl

no_length : (bs : List ℕ) → length bs ≡ 0 → bs ≡ []
no_length [] e = refl
no_length (b ∷ bs) e = absurd (omega (arith, e))

-- nothing is held, and nothing is left
pub written : (out all held left : List ℕ) → out ++ letters (held ++ left) ≡ all → length held ≡ 0 → left ≡ [] → out ≡ all
written out all held left is none ends =
    let e : letters (held ++ left) ≡ [] = ap letters (ap (λ b. b ++ left) (no_length held none) ∙ ends) ∙ no_letters in
    sym (append-nil out) ∙ ap (λ b. out ++ b) (sym e) ∙ is

-- the bits that are left, filled and written
pub written_filled : (out out' all held held' filled left : List ℕ) (k : ℕ) → k ≡ length held → out ++ letters (held ++ left) ≡ all → left ≡ [] → 0 < length held → length held < 5
    → filled ≡ held ++ bits (5 - k) 0 → ((rest : List ℕ) → out' ++ letters (held' ++ rest) ≡ out ++ letters (filled ++ rest)) → length held' ≡ 0 → out' ≡ all
written_filled out out' all held held' filled left k count is ends pos lt fill last none =
    let e : letters (filled ++ []) ≡ letters (held ++ left)
    = ap letters (append-nil filled ∙ fill ∙ ap (λ j. held ++ bits (5 - j) 0) count) ∙ ap (map letter) (fives-filled held pos lt) ∙ ap letters (sym (append-nil held) ∙ ap (λ b. held ++ b) (sym ends)) in
    written out' all held' [] (last [] ∙ ap (λ b. out ++ b) e ∙ is) none refl

pub filled_len : (held filled : List ℕ) (k : ℕ) → k ≡ length held → length held < 5 → filled ≡ held ++ bits (5 - k) 0 → length filled ≡ 5
filled_len held filled k count lt is =
    let e : length filled ≡ length held + (5 - k) = ap length is ∙ length-append held (bits (5 - k) 0) ∙ ap (λ j. length held + j) (length-bits (5 - k) 0) in
    omega (arith, e)

pub none_left : (i : ℕ) (bytes : List ℕ) → length bytes ≤ i → bytes_bits (drop i bytes) ≡ []
none_left i bytes le = ap bytes_bits (drop_all i bytes le)
