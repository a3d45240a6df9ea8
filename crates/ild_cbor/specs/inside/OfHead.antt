-- What an item says of itself, by its major type, its argument and the bytes behind its head.
use Rattle.std.specs.Prelude.{ℕ, ℤ, pos, negsuc, ◌==◌, ◌^◌, nat_lt, List, Option, Some, None, Bool, true, false, if◌then◌else◌}
use Rattle.ild_cbor.specs.declared.kind.Kind.{Kind}
use Rattle.ild_cbor.specs.declared.kind.Kind.TheVariants as K

abbrev pub kind_in : ℕ → ℕ → Kind
kind_in major n =
    if major == 0 then K.Int
    else if major == 1 then K.Int
    else if major == 2 then K.Bytes
    else if major == 3 then K.Text
    else if major == 4 then K.List
    else if major == 5 then K.Map
    else if major == 6 then K.Link
    else if n == 22 then K.Null
    else K.Bool

abbrev pub boolean_in : ℕ → ℕ → Option Bool
boolean_in major n =
    if major == 7 then (if n == 20 then Some false else if n == 21 then Some true else None) else None

abbrev pub int_in : ℕ → ℕ → Option ℤ
int_in major n =
    if major == 0 then Some (pos n)
    else if major == 1 then (if nat_lt n (2 ^ 63) then Some (negsuc n) else None)
    else None

abbrev pub count_in : ℕ → ℕ → Option ℕ
count_in major n =
    if major == 4 then Some n
    else if major == 5 then Some n
    else None

-- what stands behind a head of the major type that is wanted
abbrev pub string_in : ℕ → ℕ → List ℕ → Option (List ℕ)
string_in wanted major b = if major == wanted then Some b else None
