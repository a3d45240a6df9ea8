-- The integers of a block: -2^63 to 2^64-1.
use Rattle.std.specs.Prelude.{◌^◌, ◌-◌, ◌≤ℤ◌, ℕ, ℤ, pos, negsuc, Bool, true, false}

abbrev pub IsInt : ℤ → Type 0
IsInt n = (negsuc (2 ^ 63 - 1) ≤ℤ n) × (n ≤ℤ pos (2 ^ 64 - 1))

-- An integer of major type 1 is -1 less its argument, one of major type 0 is its argument (RFC 8949, section 3.1).
abbrev pub int_of : Bool → ℕ → ℤ
int_of false argument = pos argument
int_of true argument = negsuc argument

abbrev pub is_negative : ℤ → Bool
is_negative (pos _) = false
is_negative (negsuc _) = true

abbrev pub argument_of : ℤ → ℕ
argument_of (pos argument) = argument
argument_of (negsuc argument) = argument
