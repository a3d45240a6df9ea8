-- A base32 text read: its bits, the whole bytes of them, and what is left.
use Rattle.std.proofs.Common.{◌≡◌, ℕ, zero, suc, add-one, ◌+◌, ◌/◌, ◌%◌, ◌^◌, ◌<◌, ◌≤◌, Bool, false, List, [], ◌∷◌, ◌++◌, length, drop, get_or, nat_lt, ◌==◌, if◌then◌else◌, Some, None, refl, ap, sym, ◌∙◌, arith, append_assoc, length-append, subst}
use Rattle.std.specs.Prelude.{Option, option_map, sum, Ok, Err}
use Rattle.std.proofs.Math.Seq.{drop-cons}
use Rattle.std.proofs.Math.Nat.{two-pow-succ}
use Rattle.std.proofs.lemmas.List.{append-nil, drop_all}
use Rattle.std.proofs.lemmas.List.Sums.{sum_by-append, sum_by-cons}
use Rattle.std.proofs.lemmas.Bool.{lt-ltb}
use Rattle.std.proofs.lemmas.Bool.Decides.{nat_tests}
use Rattle.ild_data.specs.declared.fault.TextErr.TheVariants.{Digit, Bits}
use Rattle.ild_data.specs.Base32.{bits, bytes_bits}
use Rattle.ild_data.specs.Bytes.{AreBytes}
use Rattle.ild_data.specs.CidTextRead.{number_of, before, text_bits, eight, whole_bytes, left_bits, is_filling, bytes_of, read_base32}
use Rattle.ild_data.proofs.Regroup.{length-bits}

pub pushed_len : (w x : ℕ) (old new : List ℕ) → new ≡ old ++ bits w x → length new ≡ length old + w
pushed_len w x old new is = ap length is ∙ length-append old (bits w x) ∙ ap (λ k. length old + k) (length-bits w x)

-- no bit of 0 is set, and some bit of another number
pub sum_last : (bs : List ℕ) (x : ℕ) → sum (bs ++ x ∷ []) ≡ sum bs + x
sum_last bs x = let e : x + 0 ≡ x = omega arith in sum_by-append (λ y. y) bs (x ∷ []) ∙ ap (λ k. sum bs + k) (sum_by-cons (λ y. y) x [] ∙ e)

no_bit_set : (c : ℕ) → sum (bits c 0) ≡ 0
unfolding bits
no_bit_set zero = refl
no_bit_set (suc c) = sum_last (bits c 0) 0 ∙ omega (arith, no_bit_set c)

halves : (n p : ℕ) → n < p + p → n / 2 < p
halves n p lt = omega arith

bit_set : (c n : ℕ) → n < 2 ^ c → sum (bits c n) ≡ 0 → n ≡ 0
unfolding bits
bit_set zero n lt none = omega arith
bit_set (suc c) n lt none =
    let e : sum (bits c (n / 2)) + n % 2 ≡ 0 = sym (sum_last (bits c (n / 2)) (n % 2)) ∙ none in
    let h : n / 2 ≡ 0 = bit_set c (n / 2) (halves n (2 ^ c) (subst (λ k. n < k) (two-pow-succ c) lt)) (omega (arith, e)) in
    omega (arith, h, e)

same_tests : (a b : ℕ) → (a ≡ 0 → b ≡ 0) → (b ≡ 0 → a ≡ 0) → (b == 0) ≡ (a == 0)
same_tests a b f g = grind (arith, nat_tests, f, g)

filling_at : (bs : List ℕ) → length bs < 5 → is_filling bs ≡ (sum bs == 0)
unfolding is_filling
filling_at bs lt = rw (lt-ltb (length bs) 5 lt) refl

none_set : (c n : ℕ) → n ≡ 0 → sum (bits c n) ≡ 0
none_set c n e = subst (λ k. sum (bits c k) ≡ 0) (sym e) (no_bit_set c)

pub filling_short : (c n : ℕ) (bs : List ℕ) → bits c n ≡ bs → n < 2 ^ c → c < 5 → (n == 0) ≡ is_filling bs
filling_short c n bs is lt short =
    let l : length bs < 5 = subst (λ (t : List ℕ). length t < 5) is (subst (λ k. k < 5) (sym (length-bits c n)) short) in
    same_tests (sum (bits c n)) n (bit_set c n lt) (none_set c n) ∙ ap (λ t. sum t == 0) is ∙ sym (filling_at bs l)

pub not_less : (a b : ℕ) → b ≤ a → nat_lt a b ≡ false
not_less a b le = grind (arith, nat_tests)

pub filling_long : (bs : List ℕ) → 5 ≤ length bs → false ≡ is_filling bs
unfolding is_filling
filling_long bs le = rw (not_less (length bs) 5 le) refl

-- a letter at a place
pub text_at : (s : List ℕ) (i n : ℕ) → i < length s → number_of (get_or s i 0) ≡ Some n → text_bits (drop i s) ≡ before (Some n) (text_bits (drop (i + 1) s))
unfolding text_bits
text_at s i n lt is = rw (drop-cons s i 0 lt, is, add-one) refl

pub text_bad : (s : List ℕ) (i : ℕ) → i < length s → number_of (get_or s i 0) ≡ None → text_bits (drop i s) ≡ None
unfolding text_bits
text_bad s i lt is = rw (drop-cons s i 0 lt, is) refl

letter_read : (all t : Option (List ℕ)) (n : ℕ) (w v held left : List ℕ) → all ≡ option_map (λ bs. w ++ (held ++ bs)) (before (Some n) t)
    → ((rest : List ℕ) → v ++ (left ++ rest) ≡ w ++ (held ++ (bits 5 n ++ rest))) → all ≡ option_map (λ bs. v ++ (left ++ bs)) t
letter_read all None n w v held left is step = is
letter_read all (Some bs) n w v held left is step = is ∙ ap (λ (r : List ℕ). Some r) (sym (step bs))

pub next_letter : (s : List ℕ) (i n : ℕ) (w v held left : List ℕ) → i < length s → number_of (get_or s i 0) ≡ Some n
    → text_bits s ≡ option_map (λ bs. w ++ (held ++ bs)) (text_bits (drop i s))
    → ((rest : List ℕ) → v ++ (left ++ rest) ≡ w ++ (held ++ (bits 5 n ++ rest)))
    → text_bits s ≡ option_map (λ bs. v ++ (left ++ bs)) (text_bits (drop (i + 1) s))
next_letter s i n w v held left lt number is step =
    letter_read (text_bits s) (text_bits (drop (i + 1) s)) n w v held left (is ∙ ap (option_map (λ (bs : List ℕ). w ++ (held ++ bs))) (text_at s i n lt number)) step

pub bad_letter : (s : List ℕ) (i : ℕ) (w held : List ℕ) → i < length s → number_of (get_or s i 0) ≡ None
    → text_bits s ≡ option_map (λ bs. w ++ (held ++ bs)) (text_bits (drop i s)) → read_base32 s ≡ Err Digit
unfolding read_base32
bad_letter s i w held lt number is = ap bytes_of (is ∙ ap (option_map (λ (bs : List ℕ). w ++ (held ++ bs))) (text_bad s i lt number))

eight_of : (b : ℕ) → b < 256
    → eight (b / 2 / 2 / 2 / 2 / 2 / 2 / 2 % 2) (b / 2 / 2 / 2 / 2 / 2 / 2 % 2) (b / 2 / 2 / 2 / 2 / 2 % 2) (b / 2 / 2 / 2 / 2 % 2) (b / 2 / 2 / 2 % 2) (b / 2 / 2 % 2) (b / 2 % 2) (b % 2) ≡ b
eight_of b lt = omega arith

-- the bits of whole bytes, and fewer than eight behind them
whole_one : (b : ℕ) (rest : List ℕ) → b < 256 → whole_bytes (bits 8 b ++ rest) ≡ b ∷ whole_bytes rest
unfolding bits whole_bytes
whole_one b rest lt = ap (λ n. n ∷ whole_bytes rest) (eight_of b lt)

left_one : (b : ℕ) (rest : List ℕ) → left_bits (bits 8 b ++ rest) ≡ left_bits rest
unfolding bits left_bits
left_one b rest = refl

whole_none : (bs : List ℕ) → length bs < 8 → whole_bytes bs ≡ []
unfolding whole_bytes
whole_none [] lt = refl
whole_none (a ∷ []) lt = refl
whole_none (a ∷ b ∷ []) lt = refl
whole_none (a ∷ b ∷ c ∷ []) lt = refl
whole_none (a ∷ b ∷ c ∷ d ∷ []) lt = refl
whole_none (a ∷ b ∷ c ∷ d ∷ e ∷ []) lt = refl
whole_none (a ∷ b ∷ c ∷ d ∷ e ∷ f ∷ []) lt = refl
whole_none (a ∷ b ∷ c ∷ d ∷ e ∷ f ∷ g ∷ []) lt = refl
whole_none (a ∷ b ∷ c ∷ d ∷ e ∷ f ∷ g ∷ h ∷ bs) lt = absurd (omega arith)

left_all : (bs : List ℕ) → length bs < 8 → left_bits bs ≡ bs
unfolding left_bits
left_all [] lt = refl
left_all (a ∷ []) lt = refl
left_all (a ∷ b ∷ []) lt = refl
left_all (a ∷ b ∷ c ∷ []) lt = refl
left_all (a ∷ b ∷ c ∷ d ∷ []) lt = refl
left_all (a ∷ b ∷ c ∷ d ∷ e ∷ []) lt = refl
left_all (a ∷ b ∷ c ∷ d ∷ e ∷ f ∷ []) lt = refl
left_all (a ∷ b ∷ c ∷ d ∷ e ∷ f ∷ g ∷ []) lt = refl
left_all (a ∷ b ∷ c ∷ d ∷ e ∷ f ∷ g ∷ h ∷ bs) lt = absurd (omega arith)

pub whole_of : (out held : List ℕ) → AreBytes out → length held < 8 → whole_bytes (bytes_bits out ++ held) ≡ out
whole_of [] held all lt = whole_none held lt
whole_of (b ∷ out) held all lt = ap whole_bytes (append_assoc (bits 8 b) (bytes_bits out) held) ∙ whole_one b (bytes_bits out ++ held) all.0 ∙ ap (λ t. b ∷ t) (whole_of out held all.1 lt)

pub left_of : (out held : List ℕ) → length held < 8 → left_bits (bytes_bits out ++ held) ≡ held
left_of [] held lt = left_all held lt
left_of (b ∷ out) held lt = ap left_bits (append_assoc (bits 8 b) (bytes_bits out) held) ∙ left_one b (bytes_bits out ++ held) ∙ left_of out held lt

none_more : (s : List ℕ) (i : ℕ) → length s ≤ i → text_bits (drop i s) ≡ Some []
unfolding text_bits
none_more s i le = rw (drop_all i s le) refl

-- the whole text was read
pub text_read : (s : List ℕ) (i : ℕ) (out held : List ℕ) (filling : Bool) → length s ≤ i → AreBytes out → length held < 8 → is_filling held ≡ filling
    → text_bits s ≡ option_map (λ bs. bytes_bits out ++ (held ++ bs)) (text_bits (drop i s))
    → read_base32 s ≡ (if filling then Ok out else Err Bits)
unfolding read_base32
text_read s i out held filling le all lt fill is =
    let e : text_bits s ≡ Some (bytes_bits out ++ held)
    = is ∙ ap (option_map (λ (bs : List ℕ). bytes_bits out ++ (held ++ bs))) (none_more s i le) ∙ ap (λ (t : List ℕ). Some (bytes_bits out ++ t)) (append-nil held) in
    rw (e, left_of out held lt, whole_of out held all lt, fill) refl
