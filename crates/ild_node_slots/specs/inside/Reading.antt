-- Counting the bits of a node's map.
use Rattle.std.specs.Prelude.{ℕ, zero, suc, ◌+◌, ◌/◌, ◌%◌, ◌^◌, ◌==◌, List, if◌then◌else◌}
use Rattle.ild_typed.specs.NodeReading.{map_bit}

-- how many bits are set before bit i
abbrev pub ones_below : List ℕ → ℕ → ℕ
ones_below m zero = 0
ones_below m (suc i) = ones_below m i + (if map_bit m i then 1 else 0)

-- how many of the lowest bits of a byte are set
abbrev pub byte_ones : ℕ → ℕ → ℕ
byte_ones b zero = 0
byte_ones b (suc k) = byte_ones b k + (if b / 2 ^ k % 2 == 1 then 1 else 0)
