-- Bytes in hexadecimal, with digits of either case.
use Rattle.std.specs.Prelude.{ℕ, ◌+◌, ◌-◌, ◌*◌, List, [], ◌∷◌, ◌&&◌, nat_le, Option, Some, None, option_and_then, option_map, if◌then◌else◌}

abbrev pub hex_digit : ℕ → Option ℕ
hex_digit b =
    if nat_le 48 b && nat_le b 57 then Some (b - 48)
    else if nat_le 65 b && nat_le b 70 then Some (b - 55)
    else if nat_le 97 b && nat_le b 102 then Some (b - 87)
    else None

abbrev pub hex_byte : ℕ → ℕ → Option ℕ
hex_byte a b = option_and_then (λ high. option_map (λ low. 16 * high + low) (hex_digit b)) (hex_digit a)

-- the bytes of a text of an even number of digits
abbrev pub bytes_of_hex : List ℕ → Option (List ℕ)
bytes_of_hex [] = Some []
bytes_of_hex (a ∷ []) = None
bytes_of_hex (a ∷ b ∷ more) = option_and_then (λ byte. option_map (λ rest. byte ∷ rest) (bytes_of_hex more)) (hex_byte a b)
