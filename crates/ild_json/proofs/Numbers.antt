-- Digits, with or without a minus, are the number that they write.
use Rattle.std.proofs.Common.{◌≡◌, ℕ, cond, drop, zero, suc, ◌^◌, ◌<◌, ◌≤◌, ℤ, pos, nat_eq, int_lt, SFits, w64, List, [], ◌∷◌, ◌++◌, length, get_or, Bool, true, false, Some, refl, sym, ap, ◌∙◌, subst, arith, append-nil, lt-ltb, le-leb, ne_eqb}
use Rattle.std.proofs.lemmas.Int.{ints}
use Rattle.std.proofs.lemmas.Float.Parse.{scan_numeral-text_of}
use Rattle.std.specs.Char.{digit_value}
use Rattle.std.specs.Float.Numeral.{Parts, text_of, IsWellFormed}
use Rattle.std.specs.Fmt.{sign_text}
use Rattle.std.specs.Prelude.{◌≢◌, neg_ℤ}
use Rattle.std.specs.Str.Parse.{AllDigits, IsNumeral, digits_value, without_leading_plus, without_leading_sign, signed_digits_value, starts_with_minus}
use Rattle.serde_json.specs.Data.{unsigned, negative}
use Rattle.serde_json.specs.Find.{of_integer}
use Rattle.serde_json.specs.Read.{number_of, number_from}

no_minus : (ds rest : List ℕ) → AllDigits 10 ds → 0 < length ds → get_or (ds ++ rest) 0 0 ≡ 45 → ⊥
no_minus [] rest h some e = omega arith
no_minus (d ∷ ds) rest h some e = let digit : digit_value d < 10 = h.0 in let is : d ≡ 45 = e in grind arith

number_of-text_of : (sign : Bool) (p : Parts) → IsWellFormed p → 0 < length p.whole → number_of (sign_text sign ++ text_of p) ≡ number_from sign p
unfolding number_of
number_of-text_of true p h some = ap (number_from true) (scan_numeral-text_of p h)
number_of-text_of false p h some = rw (ne_eqb (get_or (text_of p) 0 0) 45 (no_minus p.whole _ h.whole_digits some)) (ap (number_from false) (scan_numeral-text_of p h))

abbrev digits : List ℕ → Parts
digits ds = record { whole = ds; point = false; fraction = []; exponent_negative = false; exponent = []; len = length (ds ++ []) }

number_of-numeral : (sign : Bool) (ds : List ℕ) → IsNumeral 10 ds → number_of (sign_text sign ++ ds) ≡ number_from sign (digits ds)
number_of-numeral sign ds h =
    let formed : IsWellFormed (digits ds) = record { whole_digits = h.1; fraction_digits = tt; exponent_digits = tt; no_point = λ _. refl; no_exponent = λ _. refl; len_is = refl } in
    ap (λ s. number_of (sign_text sign ++ s)) (sym (append-nil ds)) ∙ number_of-text_of sign (digits ds) formed h.0

pub natural_read : (ds : List ℕ) → IsNumeral 10 ds → digits_value 10 ds < 2 ^ 64 → number_of ds ≡ Some (unsigned (digits_value 10 ds))
natural_read ds h small = number_of-numeral false ds h ∙ rw (append-nil ds, lt-ltb _ _ h.0) (rw (lt-ltb _ _ small) refl)

pub negative_read : (ds : List ℕ) → IsNumeral 10 ds → 0 < digits_value 10 ds → digits_value 10 ds ≤ 2 ^ 63 → number_of (45 ∷ ds) ≡ Some (negative (neg_ℤ (pos (digits_value 10 ds))))
negative_read ds h some small = number_of-numeral true ds h ∙ rw (append-nil ds, lt-ltb _ _ h.0) (rw (lt-ltb _ _ some, le-leb _ _ small) refl)

no_plus : (s : List ℕ) → get_or s 0 0 ≢ 43 → without_leading_plus s ≡ s
no_plus s other = rw (ne_eqb (get_or s 0 0) 43 other) refl

-- what is parsed as an unsigned number with no plus
pub natural_parsed : (s : List ℕ) (n : ℕ) → get_or s 0 0 ≢ 43 → IsNumeral 10 (without_leading_plus s) × (digits_value 10 (without_leading_plus s) < 2 ^ 64) → n ≡ digits_value 10 (without_leading_plus s)
    → number_of s ≡ Some (unsigned n)
natural_parsed s n other fits is =
    let same = no_plus s other in
    natural_read s (subst (λ (t : List ℕ). IsNumeral 10 t) same fits.0) (subst (λ (t : List ℕ). digits_value 10 t < 2 ^ 64) same fits.1) ∙ ap (λ t. Some (unsigned t)) (sym (is ∙ ap (digits_value 10) same))

minus_at : (s : List ℕ) (b : Bool) → starts_with_minus s ≡ b → b ≡ true → (t : List ℕ) × (s ≡ 45 ∷ t)
minus_at [] b is e = absurd cc
minus_at (c ∷ s) b is e = (s, ap (λ d. d ∷ s) (eq_of c (is ∙ e)))
  where
    eq_of : (c : ℕ) → (nat_eq c 45) ≡ true → c ≡ 45
    eq_of c e = grind arith

-- a number below 0 was parsed from a minus and digits
negative_of : (v : ℕ) → int_lt (neg_ℤ (pos v)) (pos 0) ≡ true → (0 < v) × (negative (neg_ℤ (pos v)) ≡ of_integer (neg_ℤ (pos v)))
negative_of zero below = absurd cc
negative_of (suc v) below = (omega arith, refl)

signed_at : (s : List ℕ) (z : ℤ) (b : Bool) → starts_with_minus s ≡ b → int_lt z (pos 0) ≡ true → IsNumeral 10 (cond b (drop 1 s) (without_leading_plus s)) → SFits w64 z
    → z ≡ cond b (neg_ℤ (pos (digits_value 10 (cond b (drop 1 s) (without_leading_plus s))))) (pos (digits_value 10 (cond b (drop 1 s) (without_leading_plus s)))) → number_of s ≡ Some (of_integer z)
signed_at s z true is below fits small value =
    let front = minus_at s true is refl in
    let ds = drop 1 s in
    let sign = negative_of (digits_value 10 ds) (ap (λ y. int_lt y (pos 0)) (sym value) ∙ below) in
    let whole : s ≡ 45 ∷ ds = front.1 ∙ ap (λ t. 45 ∷ t) (sym (ap (drop 1) front.1)) in
    ap number_of whole ∙ negative_read ds fits sign.0 (at_most (digits_value 10 ds) z small value) ∙ ap Some (sign.1 ∙ ap of_integer (sym value))
  where
    at_most : (v : ℕ) (z : ℤ) → SFits w64 z → z ≡ neg_ℤ (pos v) → v ≤ 2 ^ 63
    at_most v z small is = omega (arith, ints, small, is)
signed_at s z false is below fits small value = absurd (not_below (digits_value 10 (without_leading_plus s)) (ap (λ y. int_lt y (pos 0)) (sym value) ∙ below))
  where
    not_below : (v : ℕ) → int_lt (pos v) (pos 0) ≡ true → ⊥
    not_below v e = grind arith

pub negative_parsed : (s : List ℕ) (z : ℤ) → IsNumeral 10 (without_leading_sign s) → SFits w64 (signed_digits_value 10 s) → z ≡ signed_digits_value 10 s → int_lt z (pos 0) ≡ true → number_of s ≡ Some (of_integer z)
negative_parsed s z fits small is below = signed_at s z (starts_with_minus s) refl below fits (subst (λ (y : ℤ). SFits w64 y) (sym is) small) is
