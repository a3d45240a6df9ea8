-- Values of digits.
use Rattle.std.proofs.Common.{◌≡◌, ℕ, suc, ◌+◌, ◌-◌, ◌*◌, ◌^◌, ◌≤◌, ◌<◌, Bool, true, false, cond, List, [], ◌∷◌, Some, None, length, drop, get_or, refl, sym, ap, arith}
use Rattle.std.specs.Prelude.{nat_lt, if◌then◌else◌}
use Rattle.std.proofs.Math.Seq.{drop-cons}
use Rattle.std.proofs.lemmas.Bool.{le-ltb, ltb-false}
use Rattle.std.proofs.lemmas.Option.{same_Some, none-some}
use Rattle.ild_data.specs.Decimal.{digits_value}

-- more digits make no smaller number
value_grows : (n : ℕ) (ds : List ℕ) → n ≤ digits_value n ds
value_grows n [] = omega arith
value_grows n (d ∷ ds) = omega (arith, value_grows (10 * n + (d - 48)) ds)

pub too_large : (bytes : List ℕ) (i v : ℕ) → i < length bytes → digits_value v (drop i bytes) ≡ digits_value 0 bytes → 2 ^ 64 ≤ 10 * v + (get_or bytes i 0 - 48) → nat_lt (digits_value 0 bytes) (2 ^ 64) ≡ false
too_large bytes i v lt so_far large =
    let next : digits_value v (drop i bytes) ≡ digits_value (10 * v + (get_or bytes i 0 - 48)) (drop (suc i) bytes) = ap (digits_value v) (drop-cons bytes i 0 lt) in
    le-ltb _ _ (omega (arith, so_far, next, value_grows (10 * v + (get_or bytes i 0 - 48)) (drop (suc i) bytes)))

-- the value that is told, and that none is told of a large one
pub value_is : (x n : ℕ) → Some n ≡ (if nat_lt x (2 ^ 64) then Some x else None) → n ≡ x
value_is x n e = by (nat_lt x (2 ^ 64)) e where
  by : (b : Bool) → Some n ≡ cond b (Some x) None → n ≡ x
  by true h = same_Some n x h
  by false h = absurd (none-some n (sym h))

pub value_large : (x : ℕ) → None ≡ (if nat_lt x (2 ^ 64) then Some x else None) → 2 ^ 64 ≤ x
value_large x e = by (nat_lt x (2 ^ 64)) refl e where
  by : (b : Bool) → nat_lt x (2 ^ 64) ≡ b → None ≡ cond b (Some x) None → 2 ^ 64 ≤ x
  by true is h = absurd (none-some x h)
  by false is h = ltb-false x (2 ^ 64) is
