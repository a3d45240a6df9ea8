-- What stands behind the head and the string of an item: how many items as its parts, and the bytes from the first of them on.
use Rattle.std.specs.Prelude.{ℕ, ◌+◌, ◌*◌, ◌-◌, ◌^◌, ◌==◌, nat_lt, List, min, Option, Some, None, if◌then◌else◌}
use Rattle.ild_cbor.specs.Reading.{split_at}

abbrev pub behind_string : List ℕ → Option (List ℕ × List ℕ) → ℕ × List ℕ
behind_string b None = (0, b)
behind_string b (Some x) = (0, x.1)

abbrev pub passing : ℕ → ℕ → List ℕ → ℕ × List ℕ
passing major n b =
    if major == 2 then behind_string b (split_at n b)
    else if major == 3 then behind_string b (split_at n b)
    else if major == 4 then (n, b)
    else if major == 5 then (min (n * 2) (2 ^ 64 - 1), b)
    else if major == 6 then (1, b)
    else (0, b)

-- how many bytes an item without parts has, by the major type and the low part of its first byte, where these tell
abbrev pub leaf_size_of : ℕ → ℕ → Option ℕ
leaf_size_of major low =
    if nat_lt 23 low then None
    else if major == 0 then Some 1
    else if major == 1 then Some 1
    else if major == 7 then Some 1
    else if major == 2 then Some (1 + low)
    else if major == 3 then Some (1 + low)
    else None
