-- Counts that never fall, and that stand still at the end of their type.
use Rattle.std.specs.Prelude.{ℕ, ◌+◌, ◌-◌, ◌^◌, ◌≤◌, min}

-- one more, as far as the type goes
abbrev pub bumped : ℕ → ℕ
bumped n = min (n + 1) (2 ^ 64 - 1)

-- the count is greater, or stands at the end of its type
abbrev pub Rose : ℕ → ℕ → Type 0
Rose before now = bumped before ≤ now
