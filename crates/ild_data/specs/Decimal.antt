-- Integers of a block in decimal, each in one way: no leading zeros, and no minus before zero.
use Rattle.std.specs.Prelude.{ℕ, ◌+◌, ◌-◌, ◌*◌, ◌^◌, ℤ, pos, negsuc, Bool, false, not, ◌==◌, ◌&&◌, nat_lt, nat_le, if◌then◌else◌, List, [], ◌∷◌, Option, Some, None, option_and_then}
use Rattle.std.specs.List.{list_all}

abbrev pub is_digit : ℕ → Bool
is_digit b = nat_le 48 b && nat_le b 57

-- digits behind a number
abbrev pub digits_value : ℕ → List ℕ → ℕ
digits_value n [] = n
digits_value n (d ∷ ds) = digits_value (10 * n + (d - 48)) ds

abbrev pub are_digits : List ℕ → Bool
are_digits [] = false
are_digits (d ∷ []) = is_digit d
are_digits (d ∷ e ∷ ds) = not (d == 48) && list_all is_digit (d ∷ e ∷ ds)

abbrev pub natural_of : List ℕ → Option ℕ
natural_of ds = if are_digits ds then Some (digits_value 0 ds) else None

-- -2^63 or more
abbrev pub below_zero : ℕ → Option ℤ
below_zero n = if n == 0 then None else if nat_lt (2 ^ 63) n then None else Some (negsuc (n - 1))

-- less than 2^64
abbrev pub from_zero : ℕ → Option ℤ
from_zero n = if nat_lt n (2 ^ 64) then Some (pos n) else None

abbrev pub decimal_of : List ℕ → Option ℤ
decimal_of [] = None
decimal_of (b ∷ bs) = if b == 45 then option_and_then below_zero (natural_of bs) else option_and_then from_zero (natural_of (b ∷ bs))
