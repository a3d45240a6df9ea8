-- The text of an integer in decimal is the one text that stands for it.
use Rattle.std.proofs.Common.{◌≡◌, ℕ, zero, suc, ◌-◌, ◌^◌, ◌≤◌, ◌<◌, Bool, true, false, cond, List, [], ◌∷◌, length, get_or, drop, Some, None, refl, sym, ◌∙◌, ap, arith, rules}
use Rattle.std.specs.Prelude.{ℤ, pos, negsuc, decimal, ◌&&◌, ◌==◌, not, nat_lt, option_and_then}
use Rattle.std.specs.Fmt.{signed_decimal}
use Rattle.std.specs.List.{list_all}
use Rattle.std.specs.Str.{all_ascii_digits}
use Rattle.std.proofs.lemmas.Bool.{eqb-true, eqb-false, eq-eqb, ltb-true, ltb-false, and_parts}
use Rattle.std.proofs.lemmas.Option.{same_Some, none-some}
use Rattle.std.proofs.lemmas.Fmt.{decimal-digits_value, decimal_digit, decimal_injective, first_decimal}
use Rattle.std.proofs.lemmas.Str.Parse.{IsNumeralModel, numerals_by_fold}
use Rattle.std.proofs.lemmas.Int.{ints}
use Rattle.ild_data.specs.Integer.{IsInt}
use Rattle.ild_data.specs.Decimal.{is_digit, digits_value, are_digits, natural_of, below_zero, from_zero, decimal_of}
use Rattle.ild_typed.proofs.Basics.{then_from, true_from}

own : IsNumeralModel (λ ds. all_ascii_digits ds ≡ true) (digits_value 0)
own = numerals_by_fold _ (search rules) digits_value (search rules)

digits_all : (ds : List ℕ) → list_all is_digit ds ≡ true → all_ascii_digits ds ≡ true
digits_all [] e = refl
digits_all (d ∷ ds) e =
    let x = and_parts (is_digit d) (list_all is_digit ds) e in
    ap (λ b. b && all_ascii_digits ds) x.0 ∙ digits_all ds x.1

not_zero : (d : ℕ) → not (d == 48) ≡ true → d ≡ 48 → ⊥
not_zero d e same = let k : (d == 48) ≡ true = eq-eqb d 48 same in let w : false ≡ true = sym (ap not k) ∙ e in absurd (cc)

are_own : (ds : List ℕ) → are_digits ds ≡ true → (all_ascii_digits ds ≡ true) × (0 < length ds) × (get_or ds 0 0 ≡ 48 → length ds ≡ 1)
are_own [] e = absurd (cc)
are_own (d ∷ []) e = (ap (λ b. b && true) e, omega arith, λ same. refl)
are_own (d ∷ f ∷ ds) e =
    let x = and_parts (not (d == 48)) (list_all is_digit (d ∷ f ∷ ds)) e in
    (digits_all (d ∷ f ∷ ds) x.1, omega arith, λ same. absurd (not_zero d x.0 same))

natural_is : (ds : List ℕ) (n : ℕ) → natural_of ds ≡ Some n → n < 2 ^ 64 → ds ≡ decimal n
natural_is ds n e small =
    let x = true_from (are_digits ds) (digits_value 0 ds) n e in
    let are = are_own ds x.0 in
    let value : digits_value 0 ds ≡ n = x.1 in
    sym (decimal-digits_value own ds are.0 are.1 are.2 (omega (arith, value))) ∙ ap decimal value

below : (n : ℕ) (z : ℤ) → below_zero n ≡ Some z → (0 < n) × (n ≤ 2 ^ 63) × (negsuc (n - 1) ≡ z)
below n z e = by (n == 0) (nat_lt (2 ^ 63) n) refl refl e where
  by : (x y : Bool) → x ≡ (n == 0) → y ≡ nat_lt (2 ^ 63) n → cond x None (cond y None (Some (negsuc (n - 1)))) ≡ Some z → (0 < n) × (n ≤ 2 ^ 63) × (negsuc (n - 1) ≡ z)
  by true y g h k = absurd (none-some z k)
  by false true g h k = absurd (none-some z k)
  by false false g h k =
      let some : n ≡ 0 → ⊥ = eqb-false n 0 (sym g) in
      (omega (arith, some), ltb-false (2 ^ 63) n (sym h), same_Some (negsuc (n - 1)) z k)

pub decimal_is : (s : List ℕ) (z : ℤ) → decimal_of s ≡ Some z → s ≡ signed_decimal z
decimal_is [] z e = absurd (none-some z e)
decimal_is (c ∷ cs) z e = by (c == 45) refl e where
  by : (b : Bool) → b ≡ (c == 45) → cond b (option_and_then below_zero (natural_of cs)) (option_and_then from_zero (natural_of (c ∷ cs))) ≡ Some z → c ∷ cs ≡ signed_decimal z
  by true minus h =
      let x = then_from below_zero (natural_of cs) z h in
      let n = below x.item z x.made in
      let first : c ≡ 45 = eqb-true c 45 (sym minus) in
      let more : x.item ≡ suc (x.item - 1) = let a = n.0 in omega (arith, a) in
      let rest : cs ≡ decimal (suc (x.item - 1)) = natural_is cs x.item x.there (let a = n.1 in omega (arith, a)) ∙ ap decimal more in
      ap (λ k. k ∷ cs) first ∙ ap (λ ds. 45 ∷ ds) rest ∙ ap signed_decimal n.2
  by false minus h =
      let x = then_from from_zero (natural_of (c ∷ cs)) z h in
      let n = true_from (nat_lt x.item (2 ^ 64)) (pos x.item) z x.made in
      natural_is (c ∷ cs) x.item x.there (ltb-true x.item (2 ^ 64) n.0) ∙ ap signed_decimal n.1

pos_small : (n : ℕ) → IsInt (pos n) → n < 2 ^ 64
pos_small n h = omega (arith, ints, h.1)

neg_small : (n : ℕ) → IsInt (negsuc n) → suc n < 2 ^ 64
neg_small n h = omega (arith, ints, h.0)

-- no decimal begins with a minus
no_minus : (m : ℕ) (ds : List ℕ) → m < 2 ^ 64 → decimal m ≡ 45 ∷ ds → ⊥
no_minus zero ds small e = let one : decimal 0 ≡ 48 ∷ [] = decimal_digit 0 (omega arith) in let same : 48 ≡ 45 = ap (λ xs. get_or xs 0 0) (sym one ∙ e) in omega (arith, same)
no_minus (suc m) ds small e =
    let large : 48 < get_or (decimal (suc m)) 0 0 = first_decimal (suc m) (omega arith) small in
    let same : get_or (decimal (suc m)) 0 0 ≡ 45 = ap (λ xs. get_or xs 0 0) e in
    omega (arith, large, same)

pub decimals_apart : (y z : ℤ) → IsInt y → IsInt z → signed_decimal y ≡ signed_decimal z → y ≡ z
decimals_apart (pos m) (pos n) a b e = ap pos (decimal_injective m n (pos_small m a) (pos_small n b) e)
decimals_apart (negsuc m) (negsuc n) a b e =
    let same : suc m ≡ suc n = decimal_injective (suc m) (suc n) (neg_small m a) (neg_small n b) (ap (drop 1) e) in
    ap negsuc (omega (arith, same))
decimals_apart (pos m) (negsuc n) a b e = absurd (no_minus m (decimal (suc n)) (pos_small m a) e)
decimals_apart (negsuc m) (pos n) a b e = absurd (no_minus n (decimal (suc m)) (pos_small n b) (sym e))
