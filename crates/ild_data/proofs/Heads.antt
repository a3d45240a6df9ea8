-- Heads by their bytes: what stands in front of some bytes as a head is one head.
use Rattle.std.proofs.Common.{◌≡◌, ℕ, ◌+◌, ◌*◌, ◌^◌, ◌<◌, ◌≤◌, true, false, ltb, cond, List, [], ◌∷◌, ◌++◌, length, take, drop, refl, sym, ap, ◌∙◌, arith, inl, inr}
use Rattle.std.specs.Prelude.{◌==◌}
use Rattle.std.specs.Int.{Width, w8, w16, w32, w64, byte_len, from_be_bytes, to_be_bytes}
use Rattle.std.proofs.lemmas.Bool.{cases_lt, lt-ltb, le-ltb}
use Rattle.std.proofs.lemmas.List.{take_at, drop_at}
use Rattle.std.proofs.lemmas.Nat.{from_be_bytes-to_be_bytes_2, from_be_bytes-to_be_bytes_4, from_be_bytes-to_be_bytes_8}
use Rattle.ild_data.specs.Spell.{head}

-- strings of one length in front of some bytes
pub same_string : (s t x y : List ℕ) → length s ≡ length t → s ++ x ≡ t ++ y → (s ≡ t) × (x ≡ y)
same_string s t x y len same =
    (sym (take_at s x (length s) refl) ∙ ap (take (length s)) same ∙ take_at t y (length s) (sym len), sym (drop_at s x (length s) refl) ∙ ap (drop (length s)) same ∙ drop_at t y (length s) (sym len))

-- the number that the first bytes stand for, and the bytes behind them
abbrev wide : Width → List ℕ → ℕ × List ℕ
wide w b = (from_be_bytes w (take (byte_len w) b), drop (byte_len w) b)

-- the same behind a first byte with this low part
abbrev behind : ℕ → List ℕ → ℕ × List ℕ
behind low b =
    cond (ltb low 24) (low, b) (cond (low == 24) (wide w8 b) (cond (low == 25) (wide w16 b) (cond (low == 26) (wide w32 b) (wide w64 b))))

wide_back : (w : Width) (code : List ℕ) (n : ℕ) (rest : List ℕ) → length code ≡ byte_len w → from_be_bytes w code ≡ n → wide w (code ++ rest) ≡ (n, rest)
wide_back w code n rest len is = rw (take_at code rest (byte_len w) len, drop_at code rest (byte_len w) len, is) refl

-- the bytes of the heads with this argument
record HeadOf (n : ℕ) : Type 0 where
  pub low : ℕ
  pub tail : List ℕ
  pub below : low < 32
  pub spells : (major : ℕ) → head major n ≡ (32 * major + low) ∷ tail
  pub back : (rest : List ℕ) → behind low (tail ++ rest) ≡ (n, rest)

head_0 : (n : ℕ) → n < 24 → HeadOf n
head_0 n lt =
    let t : ltb n 24 ≡ true = lt-ltb n 24 lt in
    record { low = n; tail = []; below = omega arith; spells = λ major. rw t refl; back = λ rest. rw t refl }

head_8 : (n : ℕ) → 24 ≤ n → n < 2 ^ 8 → HeadOf n
head_8 n le lt =
    let a : ltb n 24 ≡ false = le-ltb n 24 le in
    let b : ltb n (2 ^ 8) ≡ true = lt-ltb n (2 ^ 8) lt in
    record { low = 24; tail = n ∷ []; below = omega arith; spells = λ major. rw (a, b) refl; back = λ rest. wide_back w8 (n ∷ []) n rest refl (omega arith) }

head_16 : (n : ℕ) → 2 ^ 8 ≤ n → n < 2 ^ 16 → HeadOf n
head_16 n le lt =
    let a : ltb n 24 ≡ false = le-ltb n 24 (omega arith) in
    let b : ltb n (2 ^ 8) ≡ false = le-ltb n (2 ^ 8) le in
    let c : ltb n (2 ^ 16) ≡ true = lt-ltb n (2 ^ 16) lt in
    record { low = 25; tail = to_be_bytes w16 n; below = omega arith; spells = λ major. rw (a, b, c) refl; back = λ rest. wide_back w16 (to_be_bytes w16 n) n rest refl (from_be_bytes-to_be_bytes_2 n lt) }

head_32 : (n : ℕ) → 2 ^ 16 ≤ n → n < 2 ^ 32 → HeadOf n
head_32 n le lt =
    let a : ltb n 24 ≡ false = le-ltb n 24 (omega arith) in
    let b : ltb n (2 ^ 8) ≡ false = le-ltb n (2 ^ 8) (omega arith) in
    let c : ltb n (2 ^ 16) ≡ false = le-ltb n (2 ^ 16) le in
    let d : ltb n (2 ^ 32) ≡ true = lt-ltb n (2 ^ 32) lt in
    record { low = 26; tail = to_be_bytes w32 n; below = omega arith; spells = λ major. rw (a, b, c, d) refl; back = λ rest. wide_back w32 (to_be_bytes w32 n) n rest refl (from_be_bytes-to_be_bytes_4 n lt) }

head_64 : (n : ℕ) → 2 ^ 32 ≤ n → n < 2 ^ 64 → HeadOf n
head_64 n le lt =
    let a : ltb n 24 ≡ false = le-ltb n 24 (omega arith) in
    let b : ltb n (2 ^ 8) ≡ false = le-ltb n (2 ^ 8) (omega arith) in
    let c : ltb n (2 ^ 16) ≡ false = le-ltb n (2 ^ 16) (omega arith) in
    let d : ltb n (2 ^ 32) ≡ false = le-ltb n (2 ^ 32) le in
    record { low = 27; tail = to_be_bytes w64 n; below = omega arith; spells = λ major. rw (a, b, c, d) refl; back = λ rest. wide_back w64 (to_be_bytes w64 n) n rest refl (from_be_bytes-to_be_bytes_8 n lt) }

head_of : (n : ℕ) → n < 2 ^ 64 → HeadOf n
head_of n lt =
    elim (cases_lt n 24) [
      | inl a ↦ head_0 n a
      | inr a ↦ elim (cases_lt n (2 ^ 8)) [
        | inl b ↦ head_8 n a b
        | inr b ↦ elim (cases_lt n (2 ^ 16)) [
          | inl c ↦ head_16 n b c
          | inr c ↦ elim (cases_lt n (2 ^ 32)) [ inl d ↦ head_32 n c d | inr d ↦ head_64 n d lt ]
        ]
      ]
    ]

-- the first byte, and those behind it
abbrev pub first_of : List ℕ → ℕ
first_of [] = 0
first_of (c ∷ b) = c

abbrev pub others_of : List ℕ → List ℕ
others_of [] = []
others_of (c ∷ b) = b

-- two heads that stand in front of some bytes are one
pub record OneHead (m k n l : ℕ) (x y : List ℕ) : Type 0 where
  pub major : m ≡ k
  pub argument : n ≡ l
  pub rest : x ≡ y

pub one_head : (m k n l : ℕ) (x y : List ℕ) → n < 2 ^ 64 → l < 2 ^ 64 → head m n ++ x ≡ head k l ++ y → OneHead m k n l x y
one_head m k n l x y small short same =
    let h = head_of n small in
    let g = head_of l short in
    let e : (32 * m + h.low) ∷ (h.tail ++ x) ≡ (32 * k + g.low) ∷ (g.tail ++ y) =
    sym (ap (λ (t : List ℕ). t ++ x) (h.spells m)) ∙ same ∙ ap (λ (t : List ℕ). t ++ y) (g.spells k) in
    let first : 32 * m + h.low ≡ 32 * k + g.low = ap first_of e in
    let others : h.tail ++ x ≡ g.tail ++ y = ap others_of e in
    let a = h.below in
    let b = g.below in
    let low : h.low ≡ g.low = omega arith in
    let major : m ≡ k = omega arith in
    let pair : (n, x) ≡ (l, y) = sym (h.back x) ∙ ap (behind h.low) others ∙ ap (λ (j : ℕ). behind j (g.tail ++ y)) low ∙ g.back y in
    record { major = major; argument = ap (λ (p : ℕ × List ℕ). p.0) {x = (n, x)} {y = (l, y)} pair; rest = ap (λ (p : ℕ × List ℕ). p.1) {x = (n, x)} {y = (l, y)} pair }
