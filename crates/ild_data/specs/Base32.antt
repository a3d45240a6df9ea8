-- Base32 (RFC 4648, section 6) in lower case and without padding, as a regrouping of bits.
use Rattle.std.specs.Prelude.{ℕ, zero, suc, ◌+◌, ◌*◌, ◌/◌, ◌%◌, List, [], ◌∷◌, ◌++◌, map, nat_lt, if◌then◌else◌}
use Rattle.std.specs.List.{flat_map}

-- the low bits of a number, this many, the most significant first
unfoldable pub bits : ℕ → ℕ → List ℕ
bits zero n = []
bits (suc count) n = bits count (n / 2) ++ (n % 2) ∷ []

abbrev pub five : ℕ → ℕ → ℕ → ℕ → ℕ → ℕ
five a b c d e = 16 * a + 8 * b + 4 * c + 2 * d + e

-- the numbers of the groups of five bits; the last group is filled with zero bits on its right
unfoldable pub fives : List ℕ → List ℕ
fives [] = []
fives (a ∷ []) = five a 0 0 0 0 ∷ []
fives (a ∷ b ∷ []) = five a b 0 0 0 ∷ []
fives (a ∷ b ∷ c ∷ []) = five a b c 0 0 ∷ []
fives (a ∷ b ∷ c ∷ d ∷ []) = five a b c d 0 ∷ []
fives (a ∷ b ∷ c ∷ d ∷ e ∷ bs) = five a b c d e ∷ fives bs

-- a to z stand for 0 to 25, and 2 to 7 for 26 to 31
unfoldable pub letter : ℕ → ℕ
letter n = if nat_lt n 26 then 97 + n else 24 + n

-- the letters of bits
abbrev pub letters : List ℕ → List ℕ
letters bs = map letter (fives bs)

abbrev pub bytes_bits : List ℕ → List ℕ
bytes_bits bytes = flat_map (bits 8) bytes

unfoldable pub base32 : List ℕ → List ℕ
base32 bytes = letters (bytes_bits bytes)
