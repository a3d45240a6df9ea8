-- The parts of a head, by its argument (RFC 8949, section 3).
use Rattle.std.specs.Prelude.{ℕ, ◌+◌, ◌/◌, ◌^◌, nat_lt, if◌then◌else◌}

-- how many of the four least arguments with longer heads it reaches
abbrev pub lengths_passed : ℕ → ℕ
lengths_passed n = if nat_lt n 24 then 0 else if nat_lt n (2 ^ 8) then 1 else if nat_lt n (2 ^ 16) then 2 else if nat_lt n (2 ^ 32) then 3 else 4

-- how many bytes follow the first: none, 1, 2, 4 or 8
abbrev pub bytes_behind : ℕ → ℕ
bytes_behind n = 2 ^ lengths_passed n / 2

-- what the first says beside the major type
abbrev pub low_bits : ℕ → ℕ
low_bits n = if nat_lt n 24 then n else 23 + lengths_passed n
