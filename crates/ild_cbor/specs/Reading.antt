-- Reading a block from left to right (DAG-CBOR over RFC 8949, section 3): the data that it spells, or its first fault.
-- Each reader answers what stands at the front and the bytes behind it, or where it had to stop.
use Rattle.std.specs.Prelude.{ℕ, zero, suc, ◌-◌, ◌^◌, ◌/◌, ◌%◌, pos, negsuc, List, [], ◌∷◌, length, take, drop, Option, Some, None, Result, Ok, Err, Bool, true, false, nat_lt, ◌==◌, ◌&&◌, ◌≡◌, if◌then◌else◌}
use Rattle.std.specs.Int.{Width, w8, w16, w32, w64, byte_len, from_be_bytes}
use Rattle.std.specs.Str.{is_utf8}
use Rattle.ild_data.specs.Data.{Data, null, boolean, integer, text, bytes, list, map, link, Items, no_items, item, Members, no_members, member}
use Rattle.ild_data.specs.Key.{key_less}
use Rattle.ild_data.specs.Limits.{deepest, longest_block}
use Rattle.ild_data.specs.CidRead.{is_cid}
use Rattle.ild_cbor.specs.declared.fault.CborFault.{CborFault}
use Rattle.ild_cbor.specs.declared.fault.Stop.{Stop}
use Rattle.ild_cbor.specs.declared.fault.CborKind.{CborKind}
use Rattle.ild_cbor.specs.declared.fault.CborKind.TheVariants.{Short, Rest, Head, KeyKind, KeyOrder, Tag, Link, Utf8, Float, Simple, Range, Depth, Size}

-- ---- steps

infixl 10 ◌>>=◌
abbrev pub ◌>>=◌ : {A B : Type 0} → Result A Stop → (A → Result B Stop) → Result B Stop
(Ok x) >>= f = f x
(Err e) >>= f = Err e

abbrev pub Read : Type 0 → Type 0
Read A = Result (A × List ℕ) Stop

-- a fault at the first of these bytes, and at the end of the input
abbrev pub stop_at : CborKind → List ℕ → Stop
stop_at kind left = record { kind = kind; left = length left }

abbrev pub too_short : Stop
too_short = record { kind = Short; left = 0 }

abbrev pub refuse : Bool → Stop → Result (Unit {0}) Stop
refuse true s = Err s
refuse false s = Ok tt

abbrev pub demand : Bool → Stop → Result (Unit {0}) Stop
demand true s = Ok tt
demand false s = Err s

abbrev pub or_short : {A : Type 0} → Option A → Result A Stop
or_short (Some x) = Ok x
or_short None = Err too_short

-- ---- heads (RFC 8949, section 3)

unfoldable pub split_at : ℕ → List ℕ → Option (List ℕ × List ℕ)
split_at n b = if nat_lt (length b) n then None else Some (take n b, drop n b)

abbrev pub wide_from : Width → Option (List ℕ × List ℕ) → Option (ℕ × List ℕ)
wide_from w None = None
wide_from w (Some x) = Some (from_be_bytes w x.0, x.1)

-- a number of this width, big-endian
abbrev pub wide_at : Width → List ℕ → Option (ℕ × List ℕ)
wide_at w b = wide_from w (split_at (byte_len w) b)

-- the argument behind a first byte with this low part: the low part itself, or a number of 1, 2, 4 or 8 bytes
unfoldable pub argument_at : ℕ → List ℕ → Option (ℕ × List ℕ)
argument_at low b =
    if nat_lt low 24 then Some (low, b)
    else if low == 24 then wide_at w8 b
    else if low == 25 then wide_at w16 b
    else if low == 26 then wide_at w32 b
    else if low == 27 then wide_at w64 b
    else None

-- the least argument that has no shorter form
abbrev pub least_of : ℕ → ℕ
least_of low =
    if low == 24 then 24
    else if low == 25 then 2 ^ 8
    else if low == 26 then 2 ^ 16
    else if low == 27 then 2 ^ 32
    else 0

-- the argument of the item at from, in its shortest form
unfoldable pub number_at : List ℕ → ℕ → List ℕ → Read ℕ
number_at from low b = do
  _ ← refuse (nat_lt 27 low) (stop_at Head from)
  x ← or_short (argument_at low b)
  _ ← refuse (nat_lt x.0 (least_of low)) (stop_at Head from)
  Ok x

-- ---- strings, keys and links

unfoldable pub cut_at : ℕ → List ℕ → Read (List ℕ)
cut_at n b = or_short (split_at n b)

-- a byte string (2) or a text (3); another major type is the fault that is handed in
unfoldable pub string_at : ℕ → Stop → List ℕ → Read (List ℕ)
string_at major other [] = Err too_short
string_at major other (c ∷ b) = do
  _ ← demand (c / 32 == major) other
  n ← number_at (c ∷ b) (c % 32) b
  cut_at n.0 n.1

unfoldable pub key_at : List ℕ → Read (List ℕ)
key_at b = do
  k ← string_at 3 (stop_at KeyKind b) b
  _ ← demand (is_utf8 k.0) (stop_at Utf8 b)
  Ok k

-- a byte 00, and a CID
abbrev pub is_link : List ℕ → Bool
is_link [] = false
is_link (c ∷ s) = (c == 0) && is_cid s

-- what stands behind the tag of the link at from
unfoldable pub link_at : List ℕ → List ℕ → Read Data
link_at from b = do
  s ← string_at 2 (stop_at Link from) b
  _ ← demand (is_link s.0) (stop_at Link from)
  Ok (link (drop 1 s.0), s.1)

-- ---- lists and maps, whose parts are read by the reader that is handed in

unfoldable pub items_at : (List ℕ → Read Data) → ℕ → List ℕ → Read Items
items_at part zero b = Ok (no_items, b)
items_at part (suc n) b = do
  d ← part b
  ds ← items_at part n d.1
  Ok (item d.0 ds.0, ds.1)

-- whether a key may stand behind the one before it
abbrev pub may_follow : Option (List ℕ) → List ℕ → Bool
may_follow None k = true
may_follow (Some before) k = key_less before k

unfoldable pub members_at : (List ℕ → Read Data) → Option (List ℕ) → ℕ → List ℕ → Read Members
members_at part before zero b = Ok (no_members, b)
members_at part before (suc n) b = do
  k ← key_at b
  _ ← demand (may_follow before k.0) (stop_at KeyOrder b)
  d ← part k.1
  ms ← members_at part (Some k.0) n d.1
  Ok (member k.0 d.0 ms.0, ms.1)

-- ---- items

-- major type 7: false, true and null alone
unfoldable pub simple_at : List ℕ → ℕ → List ℕ → Read Data
simple_at from low b =
    if low == 20 then Ok (boolean false, b)
    else if low == 21 then Ok (boolean true, b)
    else if low == 22 then Ok (null, b)
    else if low == 25 then Err (stop_at Float from)
    else if low == 26 then Err (stop_at Float from)
    else if low == 27 then Err (stop_at Float from)
    else Err (stop_at Simple from)

-- the item at from by its major type and argument; a container may stand here where there is room
unfoldable pub body_at : ℕ → (List ℕ → Read Data) → List ℕ → ℕ → ℕ → List ℕ → Read Data
body_at room part from zero n b = Ok (integer (pos n), b)
body_at room part from (suc zero) n b = do
  _ ← demand (nat_lt n (2 ^ 63)) (stop_at Range from)
  Ok (integer (negsuc n), b)
body_at room part from (suc (suc zero)) n b = do
  s ← cut_at n b
  Ok (bytes s.0, s.1)
body_at room part from (suc (suc (suc zero))) n b = do
  s ← cut_at n b
  _ ← demand (is_utf8 s.0) (stop_at Utf8 from)
  Ok (text s.0, s.1)
body_at room part from (suc (suc (suc (suc zero)))) n b = do
  _ ← refuse (room == 0) (stop_at Depth from)
  ds ← items_at part n b
  Ok (list ds.0, ds.1)
body_at room part from (suc (suc (suc (suc (suc zero))))) n b = do
  _ ← refuse (room == 0) (stop_at Depth from)
  ms ← members_at part None n b
  Ok (map ms.0, ms.1)
body_at room part from (suc (suc (suc (suc (suc (suc m)))))) n b = do
  _ ← demand (n == 42) (stop_at Tag from)
  link_at from b

unfoldable pub item_by : ℕ → (List ℕ → Read Data) → List ℕ → Read Data
item_by room part [] = Err too_short
item_by room part (c ∷ b) =
    if c / 32 == 7 then simple_at (c ∷ b) (c % 32) b
    else number_at (c ∷ b) (c % 32) b >>= λ n. body_at room part (c ∷ b) (c / 32) n.0 n.1

-- a part of a container with this much room, in which there is room for one level less
unfoldable pub part_at : ℕ → List ℕ → Read Data
part_at zero b = Err too_short
part_at (suc room) b = item_by room (part_at room) b

-- an item in which containers nest no deeper than there is room
abbrev pub item_at : ℕ → List ℕ → Read Data
item_at room b = item_by room (part_at room) b

-- ---- blocks

-- one item, and nothing behind it
unfoldable pub all_at : List ℕ → Result Data Stop
all_at b = do
  d ← item_at deepest b
  _ ← demand (length d.1 == 0) (stop_at Rest d.1)
  Ok d.0

-- the fault with its offset, in an input of this length
abbrev pub placed : ℕ → Stop → CborFault
placed whole s = record { kind = s.kind; at = whole - s.left }

-- the first fault, where there is one
abbrev pub fault_in : ℕ → Result Data Stop → Option CborFault
fault_in whole (Ok d) = None
fault_in whole (Err s) = Some (placed whole s)

-- the fault of a block, and its offset
unfoldable pub fault_of : List ℕ → Option CborFault
fault_of b = if nat_lt longest_block (length b) then Some (record { kind = Size; at = longest_block }) else fault_in (length b) (all_at b)

-- ---- what the code's readers answer

-- what a function returned, seen by view, is what reading gives
abbrev pub Gives : {X Y : Type 0} → (X → Y) → Result X Stop → Result Y Stop → Type 0
Gives view (Ok x) read = read ≡ Ok (view x)
Gives view (Err e) read = read ≡ Err e

-- the bytes behind what is read
abbrev pub rest_of : {A : Type 0} → Read A → Result (List ℕ) Stop
rest_of read = read >>= λ x. Ok x.1

-- whether all is read
abbrev pub done_of : Result Data Stop → Result (Unit {0}) Stop
done_of read = read >>= λ d. Ok tt
