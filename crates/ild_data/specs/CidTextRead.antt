-- The reading rules of CID texts: b, and base32 (RFC 4648, section 6) whose last bits are a mere filling.
use Rattle.std.specs.Prelude.{ℕ, ◌+◌, ◌*◌, ◌-◌, List, [], ◌∷◌, ◌++◌, length, sum, Bool, ◌&&◌, nat_lt, nat_le, ◌==◌, if◌then◌else◌, Option, Some, None, option_map, Result, Ok, Err}
use Rattle.ild_data.specs.declared.fault.CidFault.{CidFault}
use Rattle.ild_data.specs.declared.fault.TextErr.{TextErr}
use Rattle.ild_data.specs.declared.fault.TextErr.TheVariants.{Prefix, Digit, Bits, Cid}
use Rattle.ild_data.specs.Base32.{bits}
use Rattle.ild_data.specs.CidRead.{CidParts, read_cid}

-- the number of a letter of the alphabet
unfoldable pub number_of : ℕ → Option ℕ
number_of c =
    if nat_le 97 c && nat_le c 122 then Some (c - 97)
    else if nat_le 50 c && nat_le c 55 then Some (c - 24)
    else None

abbrev pub before : Option ℕ → Option (List ℕ) → Option (List ℕ)
before None bs = None
before (Some n) bs = option_map (λ t. bits 5 n ++ t) bs

-- five bits a letter; none where a character is outside the alphabet
unfoldable pub text_bits : List ℕ → Option (List ℕ)
text_bits [] = Some []
text_bits (c ∷ s) = before (number_of c) (text_bits s)

abbrev pub eight : ℕ → ℕ → ℕ → ℕ → ℕ → ℕ → ℕ → ℕ → ℕ
eight a b c d e f g h = 128 * a + 64 * b + 32 * c + 16 * d + 8 * e + 4 * f + 2 * g + h

-- the whole bytes
unfoldable pub whole_bytes : List ℕ → List ℕ
whole_bytes (a ∷ b ∷ c ∷ d ∷ e ∷ f ∷ g ∷ h ∷ bs) = eight a b c d e f g h ∷ whole_bytes bs
whole_bytes bs = []

-- the bits behind them
unfoldable pub left_bits : List ℕ → List ℕ
left_bits (a ∷ b ∷ c ∷ d ∷ e ∷ f ∷ g ∷ h ∷ bs) = left_bits bs
left_bits bs = bs

-- fewer than five bits, none of them set
unfoldable pub is_filling : List ℕ → Bool
is_filling bs = nat_lt (length bs) 5 && (sum bs == 0)

abbrev pub bytes_of : Option (List ℕ) → Result (List ℕ) TextErr
bytes_of None = Err Digit
bytes_of (Some bs) = if is_filling (left_bits bs) then Ok (whole_bytes bs) else Err Bits

unfoldable pub read_base32 : List ℕ → Result (List ℕ) TextErr
read_base32 s = bytes_of (text_bits s)

abbrev pub checked_by : List ℕ → Result CidParts CidFault → Result (List ℕ) TextErr
checked_by bytes (Ok parts) = Ok bytes
checked_by bytes (Err fault) = Err (Cid fault)

abbrev pub checked : Result (List ℕ) TextErr → Result (List ℕ) TextErr
checked (Ok bytes) = checked_by bytes (read_cid bytes)
checked (Err e) = Err e

-- the bytes of the CID whose text this is, or the first fault
unfoldable pub read_cid_text : List ℕ → Result (List ℕ) TextErr
read_cid_text [] = Err Prefix
read_cid_text (c ∷ s) = if c == 98 then checked (read_base32 s) else Err Prefix
