-- A hash for tests, in which a key is seen: its first 32 bytes, filled up with zeros.
use Rattle.std.specs.Prelude.{ℕ, ◌-◌, List, ◌++◌, length, take, replicate}

abbrev pub padded : List ℕ → List ℕ
padded key = take 32 key ++ replicate (32 - length key) 0
