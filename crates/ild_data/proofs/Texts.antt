-- Texts of CIDs: what is spelled is read, and what is read is spelled so.
use Rattle.std.proofs.Common.{◌≡◌, ℕ, zero, suc, ◌+◌, ◌*◌, ◌-◌, ◌/◌, ◌%◌, ◌<◌, ◌≤◌, Bool, true, false, ◌&&◌, ◌⊎◌, inl, inr, List, [], ◌∷◌, ◌++◌, length, map, drop, take, get_or, nat_le, ◌==◌, if◌then◌else◌, Some, None, refl, ap, sym, ◌∙◌, arith, append_assoc, length-append, subst}
use Rattle.std.specs.Prelude.{Option, sum, Ok, Err, Result, is_ok}
use Rattle.std.proofs.lemmas.List.{take_all}
use Rattle.std.proofs.lemmas.List.Sums.{sum_by-cons}
use Rattle.std.proofs.lemmas.Bool.{eq-eqb, eqb-true, lt-ltb}
use Rattle.std.proofs.lemmas.Bool.Decides.{nat_tests}
use Rattle.ild_data.specs.declared.fault.TextErr.{TextErr}
use Rattle.ild_data.specs.declared.fault.TextErr.TheVariants.{Prefix, Bits}
use Rattle.ild_data.specs.Base32.{bits, five, fives, letter, letters, bytes_bits, base32}
use Rattle.ild_data.specs.Bytes.{AreBytes}
use Rattle.ild_data.specs.declared.fault.CidFault.{CidFault}
use Rattle.ild_data.specs.Cid.{IsCid}
use Rattle.ild_data.specs.CidRead.{CidParts, read_cid, is_cid}
use Rattle.ild_data.specs.CidText.{cid_text_of}
use Rattle.ild_data.specs.CidTextRead.{number_of, before, text_bits, eight, whole_bytes, left_bits, is_filling, bytes_of, read_base32, checked, checked_by, read_cid_text}
use Rattle.ild_data.proofs.Regroup.{length-bits, letters-five, fives-filled}
use Rattle.ild_data.proofs.TextBits.{whole_of, left_of}
use Rattle.ild_data.proofs.Cids.{checked_cid, is_cid-IsCid}

-- the text begins with b
pub text_begins : (s bytes : List ℕ) → 1 ≤ length s → get_or s 0 0 ≡ 98 → read_base32 (take (length s - 1) (drop 1 s)) ≡ Ok bytes → IsCid bytes → read_cid_text s ≡ Ok bytes
unfolding read_cid_text
text_begins [] bytes le first is of = absurd (omega arith)
text_begins (c ∷ t) bytes le first is of =
    let e : read_base32 t ≡ Ok bytes = ap read_base32 (sym (take_all (length (c ∷ t) - 1) t (omega arith))) ∙ is in
    rw (eq-eqb c 98 first, e) (checked_cid bytes of)

abbrev AreBits : List ℕ → Type 0
AreBits [] = Unit {0}
AreBits (b ∷ bs) = (b < 2) × AreBits bs

AreBits-append : (xs ys : List ℕ) → AreBits xs → AreBits ys → AreBits (xs ++ ys)
AreBits-append [] ys h k = k
AreBits-append (x ∷ xs) ys h k = (h.0, AreBits-append xs ys h.1 k)

a_bit : (n : ℕ) → n % 2 < 2
a_bit n = omega arith

AreBits-bits : (w n : ℕ) → AreBits (bits w n)
unfolding bits
AreBits-bits zero n = tt
AreBits-bits (suc w) n = AreBits-append (bits w (n / 2)) (n % 2 ∷ []) (AreBits-bits w (n / 2)) (a_bit n, tt)

AreBits-bytes : (bytes : List ℕ) → AreBits (bytes_bits bytes)
AreBits-bytes [] = tt
AreBits-bytes (b ∷ bytes) = AreBits-append (bits 8 b) (bytes_bits bytes) (AreBits-bits 8 b) (AreBits-bytes bytes)

-- a bit more on the right
rest_of : (x e : ℕ) → e < 2 → (2 * x + e) / 2 ≡ x
rest_of x e lt = omega arith

last_of : (x e : ℕ) → e < 2 → (2 * x + e) % 2 ≡ e
last_of x e lt = omega arith

bits_more : (w x e : ℕ) (bs : List ℕ) → e < 2 → bits w x ≡ bs → bits (suc w) (2 * x + e) ≡ bs ++ e ∷ []
unfolding bits
bits_more w x e bs lt is = rw (rest_of x e lt, last_of x e lt, is) refl

bits_one : (a : ℕ) → a < 2 → bits 1 a ≡ a ∷ []
unfolding bits
bits_one a lt = let e : a % 2 ≡ a = omega arith in ap (λ k. k ∷ []) e

nested_five : (a b c d e : ℕ) → five a b c d e ≡ 2 * (2 * (2 * (2 * a + b) + c) + d) + e
nested_five a b c d e = omega arith

bits_five : (a b c d e : ℕ) → a < 2 → b < 2 → c < 2 → d < 2 → e < 2 → bits 5 (five a b c d e) ≡ a ∷ b ∷ c ∷ d ∷ e ∷ []
bits_five a b c d e p q r s t = ap (bits 5) (nested_five a b c d e) ∙
    bits_more 4 (2 * (2 * (2 * a + b) + c) + d) e (a ∷ b ∷ c ∷ d ∷ []) t (bits_more 3 (2 * (2 * a + b) + c) d (a ∷ b ∷ c ∷ []) s
    (bits_more 2 (2 * a + b) c (a ∷ b ∷ []) r (bits_more 1 a b (a ∷ []) q (bits_one a p))))

nested_eight : (a b c d e f g h : ℕ) → eight a b c d e f g h ≡ 2 * (2 * (2 * five a b c d e + f) + g) + h
nested_eight a b c d e f g h = omega arith

bits_eight : (a b c d e f g h : ℕ) → a < 2 → b < 2 → c < 2 → d < 2 → e < 2 → f < 2 → g < 2 → h < 2
    → bits 8 (eight a b c d e f g h) ≡ a ∷ b ∷ c ∷ d ∷ e ∷ f ∷ g ∷ h ∷ []
bits_eight a b c d e f g h p q r s t u v w = ap (bits 8) (nested_eight a b c d e f g h) ∙
    bits_more 7 (2 * (2 * five a b c d e + f) + g) h (a ∷ b ∷ c ∷ d ∷ e ∷ f ∷ g ∷ []) w (bits_more 6 (2 * five a b c d e + f) g (a ∷ b ∷ c ∷ d ∷ e ∷ f ∷ []) v
    (bits_more 5 (five a b c d e) f (a ∷ b ∷ c ∷ d ∷ e ∷ []) u (bits_five a b c d e p q r s t)))

-- letters and numbers
number_cases : (p q r s : Bool) (c n : ℕ) → (if p && q then Some (c - 97) else if r && s then Some (c - 24) else None) ≡ Some n
    → ((p ≡ true) × (q ≡ true) × (c - 97 ≡ n)) ⊎ ((r ≡ true) × (s ≡ true) × (c - 24 ≡ n))
number_cases true true r s c n is = inl (refl, refl, (cc))
number_cases true false true true c n is = inr (refl, refl, (cc))
number_cases true false true false c n is = absurd (cc)
number_cases true false false s c n is = absurd (cc)
number_cases false q true true c n is = inr (refl, refl, (cc))
number_cases false q true false c n is = absurd (cc)
number_cases false q false s c n is = absurd (cc)

early_letter : (c n : ℕ) → nat_le 97 c ≡ true → nat_le c 122 ≡ true → c - 97 ≡ n → (letter n ≡ c) × (n < 32)
unfolding letter
early_letter c n p q e = grind (arith, nat_tests)

late_letter : (c n : ℕ) → nat_le 50 c ≡ true → nat_le c 55 ≡ true → c - 24 ≡ n → (letter n ≡ c) × (n < 32)
unfolding letter
late_letter c n p q e = grind (arith, nat_tests)

letter_by_cases : (c n : ℕ) → ((nat_le 97 c ≡ true) × (nat_le c 122 ≡ true) × (c - 97 ≡ n)) ⊎ ((nat_le 50 c ≡ true) × (nat_le c 55 ≡ true) × (c - 24 ≡ n)) → (letter n ≡ c) × (n < 32)
letter_by_cases c n (inl h) = early_letter c n h.0 h.1 h.2
letter_by_cases c n (inr h) = late_letter c n h.0 h.1 h.2

letter_number : (c n : ℕ) → number_of c ≡ Some n → (letter n ≡ c) × (n < 32)
unfolding number_of
letter_number c n is = letter_by_cases c n (number_cases (nat_le 97 c) (nat_le c 122) (nat_le 50 c) (nat_le c 55) c n is)

number_letter : (n : ℕ) → n < 32 → number_of (letter n) ≡ Some n
unfolding number_of letter
number_letter n lt = grind (arith, nat_tests)

before_cases : (o : Option ℕ) (t : Option (List ℕ)) (bs : List ℕ) → before o t ≡ Some bs → (n : ℕ) × (o ≡ Some n) × ((r : List ℕ) × (t ≡ Some r) × (bits 5 n ++ r ≡ bs))
before_cases None t bs is = absurd (cc)
before_cases (Some n) None bs is = absurd (cc)
before_cases (Some n) (Some r) bs is = (n, refl, (r, refl, (cc)))

-- a text with its bits
record Spelled (s bs : List ℕ) : Type 0 where
  pub spelled : letters bs ≡ s
  pub are : AreBits bs
  pub fives : length bs ≡ 5 * length s

some_bits : (xs ys : List ℕ) → ◌≡◌ {A = Option (List ℕ)} (Some xs) (Some ys) → xs ≡ ys
some_bits xs ys is = cc

no_spelling : letters [] ≡ []
unfolding fives
no_spelling = refl

more_spelled : (c n : ℕ) (s r bs : List ℕ) → letter n ≡ c → n < 32 → bits 5 n ++ r ≡ bs → Spelled s r → Spelled (c ∷ s) bs
more_spelled c n s r bs is lt e h = record {
  spelled = ap letters (sym e) ∙ letters-five n r lt ∙ ap (λ k. k ∷ letters r) is ∙ ap (λ t. c ∷ t) h.spelled;
  are = subst AreBits e (AreBits-append (bits 5 n) r (AreBits-bits 5 n) h.are);
  fives = let k : length bs ≡ 5 + length r = ap length (sym e) ∙ length-append (bits 5 n) r ∙ ap (λ j. j + length r) (length-bits 5 n) in omega (arith, k, h.fives);
}

text_spelled : (s bs : List ℕ) → text_bits s ≡ Some bs → Spelled s bs
unfolding text_bits
text_spelled [] bs is = subst (Spelled []) (some_bits [] bs is) (record { spelled = no_spelling; are = tt; fives = refl })
text_spelled (c ∷ s) bs is =
    let h = before_cases (number_of c) (text_bits s) bs is in
    let k = letter_number c h.0 h.1 in
    more_spelled c h.0 s h.2.0 bs k.0 k.1 h.2.2 (text_spelled s h.2.0 h.2.1)

-- zero bits
zeros_first : (w : ℕ) → bits (suc w) 0 ≡ 0 ∷ bits w 0
unfolding bits
zeros_first zero = refl
zeros_first (suc w) = ap (λ t. t ++ 0 ∷ []) (zeros_first w)

sum_zero : (z : ℕ) (zs : List ℕ) → sum (z ∷ zs) ≡ 0 → (z ≡ 0) × (sum zs ≡ 0)
sum_zero z zs is = let e : z + sum zs ≡ 0 = sym (sum_by-cons (λ y. y) z zs) ∙ is in (omega (arith, e), omega (arith, e))

are_zeros : (zs : List ℕ) → sum zs ≡ 0 → zs ≡ bits (length zs) 0
unfolding bits
are_zeros [] is = refl
are_zeros (z ∷ zs) is = let h = sum_zero z zs is in ap (λ k. k ∷ zs) h.0 ∙ ap (λ t. 0 ∷ t) (are_zeros zs h.1) ∙ sym (zeros_first (length zs))

-- zero bits that end the last group
filled_short : (xs zs : List ℕ) → 0 < length xs → length xs < 5 → length xs + length zs ≡ 5 → sum zs ≡ 0 → fives (xs ++ zs) ≡ fives xs
filled_short xs zs pos lt whole none =
    let e : length zs ≡ 5 - length xs = omega arith in
    ap (λ t. fives (xs ++ t)) (are_zeros zs none ∙ ap (λ k. bits k 0) e) ∙ fives-filled xs pos lt

empty_of : (zs : List ℕ) → length zs ≡ 0 → zs ≡ []
empty_of [] e = refl
empty_of (z ∷ zs) e = absurd (omega (arith, e))

filled : (xs zs : List ℕ) (k : ℕ) → length zs < 5 → sum zs ≡ 0 → length xs + length zs ≡ 5 * k → fives (xs ++ zs) ≡ fives xs
unfolding fives
filled [] zs k lt none whole = ap fives (empty_of zs (omega (arith, whole)))
filled (a ∷ []) zs k lt none whole = filled_short (a ∷ []) zs (omega arith) (omega arith) (omega (arith, whole)) none
filled (a ∷ b ∷ []) zs k lt none whole = filled_short (a ∷ b ∷ []) zs (omega arith) (omega arith) (omega (arith, whole)) none
filled (a ∷ b ∷ c ∷ []) zs k lt none whole = filled_short (a ∷ b ∷ c ∷ []) zs (omega arith) (omega arith) (omega (arith, whole)) none
filled (a ∷ b ∷ c ∷ d ∷ []) zs k lt none whole = filled_short (a ∷ b ∷ c ∷ d ∷ []) zs (omega arith) (omega arith) (omega (arith, whole)) none
filled (a ∷ b ∷ c ∷ d ∷ e ∷ xs) zs k lt none whole = ap (λ t. five a b c d e ∷ t) (filled xs zs (k - 1) lt none (omega (arith, whole)))

-- the whole bytes and the rest are all the bits
whole_left : (bs : List ℕ) → AreBits bs → bytes_bits (whole_bytes bs) ++ left_bits bs ≡ bs
unfolding whole_bytes left_bits
whole_left [] h = refl
whole_left (a ∷ []) h = refl
whole_left (a ∷ b ∷ []) h = refl
whole_left (a ∷ b ∷ c ∷ []) h = refl
whole_left (a ∷ b ∷ c ∷ d ∷ []) h = refl
whole_left (a ∷ b ∷ c ∷ d ∷ e ∷ []) h = refl
whole_left (a ∷ b ∷ c ∷ d ∷ e ∷ f ∷ []) h = refl
whole_left (a ∷ b ∷ c ∷ d ∷ e ∷ f ∷ g ∷ []) h = refl
whole_left (a ∷ b ∷ c ∷ d ∷ e ∷ f ∷ g ∷ x ∷ bs) h =
    append_assoc (bits 8 (eight a b c d e f g x)) (bytes_bits (whole_bytes bs)) (left_bits bs)
    ∙ ap (λ t. t ++ (bytes_bits (whole_bytes bs) ++ left_bits bs)) (bits_eight a b c d e f g x h.0 h.1.0 h.1.1.0 h.1.1.1.0 h.1.1.1.1.0 h.1.1.1.1.1.0 h.1.1.1.1.1.1.0 h.1.1.1.1.1.1.1.0)
    ∙ ap (λ t. a ∷ b ∷ c ∷ d ∷ e ∷ f ∷ g ∷ x ∷ t) (whole_left bs h.1.1.1.1.1.1.1.1)

filling_cases : (bs : List ℕ) → is_filling bs ≡ true → (length bs < 5) × (sum bs ≡ 0)
unfolding is_filling
filling_cases bs is = grind (arith, nat_tests)

chosen : (t : Bool) (w bytes : List ℕ) → (if t then Ok w else Err Bits) ≡ Ok bytes → (t ≡ true) × (w ≡ bytes)
chosen true w bytes is = (refl, (cc))
chosen false w bytes is = absurd (cc)

bytes_cases : (o : Option (List ℕ)) (bytes : List ℕ) → bytes_of o ≡ Ok bytes → (bs : List ℕ) × (o ≡ Some bs) × (is_filling (left_bits bs) ≡ true) × (whole_bytes bs ≡ bytes)
bytes_cases None bytes is = absurd (cc)
bytes_cases (Some bs) bytes is = let h = chosen (is_filling (left_bits bs)) (whole_bytes bs) bytes is in (bs, refl, h.0, h.1)

-- what is read is spelled so
pub base32-read : (s bytes : List ℕ) → read_base32 s ≡ Ok bytes → base32 bytes ≡ s
unfolding read_base32 base32
base32-read s bytes is =
    let h = bytes_cases (text_bits s) bytes is in
    let k = text_spelled s h.0 h.1 in
    let fill = filling_cases (left_bits h.0) h.2 in
    let w = whole_left h.0 k.are in
    let len : length (bytes_bits (whole_bytes h.0)) + length (left_bits h.0) ≡ 5 * length s
    = sym (length-append (bytes_bits (whole_bytes h.0)) (left_bits h.0)) ∙ ap length w ∙ k.fives in
    ap (λ t. letters (bytes_bits t)) (sym h.3)
    ∙ ap (map letter) (sym (filled (bytes_bits (whole_bytes h.0)) (left_bits h.0) (length s) fill.0 fill.1 len))
    ∙ ap letters w ∙ k.spelled

letter_bits : (a b c d e : ℕ) (t r : List ℕ) → a < 2 → b < 2 → c < 2 → d < 2 → e < 2 → text_bits t ≡ Some r
    → text_bits (letter (five a b c d e) ∷ t) ≡ Some (a ∷ b ∷ c ∷ d ∷ e ∷ r)
unfolding text_bits
letter_bits a b c d e t r p q u v w is =
    let lt : five a b c d e < 32 = omega arith in
    rw (number_letter (five a b c d e) lt, is, bits_five a b c d e p q u v w) refl

no_text : text_bits [] ≡ Some []
unfolding text_bits
no_text = refl

-- the letters of bits, read again
record Filled (bs : List ℕ) : Type 0 where
  pub fill : List ℕ
  pub text : text_bits (letters bs) ≡ Some (bs ++ fill)
  pub short : length fill < 5
  pub none : sum fill ≡ 0

a_zero : 0 < 2
a_zero = omega arith

filled_text : (bs : List ℕ) → AreBits bs → Filled bs
unfolding fives
filled_text [] h = record { fill = []; text = no_text; short = omega arith; none = refl }
filled_text (a ∷ []) h = record { fill = 0 ∷ 0 ∷ 0 ∷ 0 ∷ []; text = letter_bits a 0 0 0 0 [] [] h.0 a_zero a_zero a_zero a_zero no_text; short = omega arith; none = refl }
filled_text (a ∷ b ∷ []) h = record { fill = 0 ∷ 0 ∷ 0 ∷ []; text = letter_bits a b 0 0 0 [] [] h.0 h.1.0 a_zero a_zero a_zero no_text; short = omega arith; none = refl }
filled_text (a ∷ b ∷ c ∷ []) h = record { fill = 0 ∷ 0 ∷ []; text = letter_bits a b c 0 0 [] [] h.0 h.1.0 h.1.1.0 a_zero a_zero no_text; short = omega arith; none = refl }
filled_text (a ∷ b ∷ c ∷ d ∷ []) h = record { fill = 0 ∷ []; text = letter_bits a b c d 0 [] [] h.0 h.1.0 h.1.1.0 h.1.1.1.0 a_zero no_text; short = omega arith; none = refl }
filled_text (a ∷ b ∷ c ∷ d ∷ e ∷ bs) h =
    let more = filled_text bs h.1.1.1.1.1 in
    record {
      fill = more.fill;
      text = letter_bits a b c d e (letters bs) (bs ++ more.fill) h.0 h.1.0 h.1.1.0 h.1.1.1.0 h.1.1.1.1.0 more.text;
      short = more.short;
      none = more.none;
    }

is_fill : (bs : List ℕ) → length bs < 5 → sum bs ≡ 0 → is_filling bs ≡ true
unfolding is_filling
is_fill bs lt none = rw (lt-ltb (length bs) 5 lt, none) refl

-- what is spelled is read
pub read-base32 : (bytes : List ℕ) → AreBytes bytes → read_base32 (base32 bytes) ≡ Ok bytes
unfolding read_base32 base32
read-base32 bytes all =
    let f = filled_text (bytes_bits bytes) (AreBits-bytes bytes) in
    let lt : length f.fill < 8 = omega (arith, f.short) in
    rw (f.text, left_of bytes f.fill lt, whole_of bytes f.fill all lt, is_fill f.fill f.short f.none) refl

pub read-cid_text : (s : List ℕ) → IsCid s → AreBytes s → read_cid_text (cid_text_of s) ≡ Ok s
unfolding read_cid_text
read-cid_text s of all = ap checked (read-base32 s all) ∙ checked_cid s of

checked_cases : (bytes s : List ℕ) (r : Result CidParts CidFault) → checked_by bytes r ≡ Ok s → (is_ok r ≡ true) × (bytes ≡ s)
checked_cases bytes s (Ok p) is = (refl, (cc))
checked_cases bytes s (Err e) is = absurd (cc)

base32_cases : (r : Result (List ℕ) TextErr) (s : List ℕ) → checked r ≡ Ok s → (r ≡ Ok s) × (is_cid s ≡ true)
unfolding is_cid
base32_cases (Ok bytes) s is =
    let h = checked_cases bytes s (read_cid bytes) is in
    let e : bytes ≡ s = h.1 in
    (ap (λ t. Ok t) e, ap (λ t. is_ok (read_cid t)) (sym e) ∙ h.0)
base32_cases (Err e) s is = absurd (cc)

first_cases : (t : Bool) (r : Result (List ℕ) TextErr) (s : List ℕ) → (if t then checked r else Err Prefix) ≡ Ok s → (t ≡ true) × (checked r ≡ Ok s)
first_cases true r s is = (refl, is)
first_cases false r s is = absurd (cc)

pub cid_text-read : (t s : List ℕ) → read_cid_text t ≡ Ok s → IsCid s × (t ≡ cid_text_of s)
unfolding read_cid_text
cid_text-read [] s is = absurd (cc)
cid_text-read (c ∷ t) s is =
    let h = first_cases (c == 98) (read_base32 t) s is in
    let k = base32_cases (read_base32 t) s h.1 in
    (is_cid-IsCid s k.1, ap (λ b. b ∷ t) (eqb-true c 98 h.0) ∙ ap (λ b. 98 ∷ b) (sym (base32-read t s k.0)))
