-- Pieces of blocks.
use Rattle.std.specs.Prelude.{◌-◌, ℕ, List, take, drop}

-- the bytes of a block from one place up to another
abbrev pub piece : List ℕ → ℕ → ℕ → List ℕ
piece b i j = take (j - i) (drop i b)
