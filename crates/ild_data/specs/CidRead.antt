-- The reading rules of binary CIDs (multiformats, CIDv1), from left to right: the parts, or the first fault.
use Rattle.std.specs.Prelude.{◌≡◌, ℕ, zero, suc, ◌+◌, ◌*◌, ◌-◌, List, [], ◌∷◌, length, Bool, Ok, Err, is_ok, Result, nat_lt, ◌==◌, if◌then◌else◌}
use Rattle.ild_data.specs.declared.fault.CidFault.{CidFault}
use Rattle.ild_data.specs.declared.fault.CidFault.TheVariants.{Version, Varint, Short, Long, Rest}

infixl 10 ◌>>=◌
abbrev pub ◌>>=◌ : {A B : Type 0} → Result A CidFault → (A → Result B CidFault) → Result B CidFault
(Ok x) >>= f = f x
(Err e) >>= f = Err e

-- what a call returned, seen by view, is what the rules give
abbrev pub Gives : {X Y : Type 0} → (X → Y) → Result X CidFault → Result Y CidFault → Type 0
Gives view (Ok x) read = read ≡ Ok (view x)
Gives view (Err e) read = read ≡ Err e

-- a group that says that more follow, before the number that the groups behind it stand for
abbrev pub behind : ℕ → ℕ × List ℕ → ℕ × List ℕ
behind b r = (b - 128 + 128 * r.0, r.1)

-- The groups behind one that says that more follow, where so many bytes may come: their number, and the bytes after them.
-- (A number from 256 on is no byte.)
unfoldable pub read_more : ℕ → List ℕ → Result (ℕ × List ℕ) CidFault
read_more zero s = Err Varint
read_more (suc room) [] = Err Short
read_more (suc room) (b ∷ s) =
    if b == 0 then Err Varint
    else if nat_lt b 128 then Ok (b, s)
    else if nat_lt b 256 then (read_more room s >>= λ r. Ok (behind b r))
    else Err Varint

-- the number of a varint, and the bytes after it
unfoldable pub read_varint : List ℕ → Result (ℕ × List ℕ) CidFault
read_varint [] = Err Short
read_varint (b ∷ s) =
    if nat_lt b 128 then Ok (b, s)
    else if nat_lt b 256 then (read_more 8 s >>= λ r. Ok (behind b r))
    else Err Varint

pub record CidParts : Type 0 where
  pub codec : ℕ
  pub hash : ℕ
  pub digest : List ℕ

-- all that is left is the digest, of this size
unfoldable pub read_digest : ℕ → List ℕ → Result (List ℕ) CidFault
read_digest size s =
    if nat_lt 64 size then Err Long
    else if nat_lt (length s) size then Err Short
    else if nat_lt size (length s) then Err Rest
    else Ok s

unfoldable pub read_version : List ℕ → Result (List ℕ) CidFault
read_version s = read_varint s >>= λ version. if version.0 == 1 then Ok version.1 else Err Version

unfoldable pub read_cid : List ℕ → Result CidParts CidFault
read_cid s = do
  rest ← read_version s
  codec ← read_varint rest
  hash ← read_varint codec.1
  size ← read_varint hash.1
  digest ← read_digest size.0 size.1
  Ok (record { codec = codec.0; hash = hash.0; digest = digest })

unfoldable pub is_cid : List ℕ → Bool
is_cid s = is_ok (read_cid s)

abbrev pub parts_or_none : Result CidParts CidFault → CidParts
parts_or_none (Ok p) = p
parts_or_none (Err e) = record { codec = 0; hash = 0; digest = [] }

-- the parts of a CID
unfoldable pub cid_parts : List ℕ → CidParts
cid_parts s = parts_or_none (read_cid s)
