-- Blocks under their ids.
use Rattle.std.specs.Prelude.{◌≡◌, ℕ, List, map}
use Rattle.ild_data.specs.Spell.{id_of}

-- a block under its own id
abbrev pub IsOwn : List ℕ × List ℕ → Type 0
IsOwn row = row.0 ≡ id_of row.1

-- the blocks alone
abbrev pub row_blocks : List (List ℕ × List ℕ) → List (List ℕ)
row_blocks rows = map (λ (row : List ℕ × List ℕ). row.1) rows
