-- The values of a plain map from texts to integers, and their one block.
use Rattle.std.specs.Prelude.{ℕ, ℤ, List, [], ◌∷◌, map, Bool, length, nat_le}
use Rattle.ild_data.specs.Data.{Data, integer, map as map_of, members_of}
use Rattle.ild_data.specs.Limits.{longest_block}
use Rattle.ild_data.specs.Spell.{spell, id_of}

-- the entries, under rising keys
abbrev pub Value : Type 0
Value = List (List ℕ × ℤ)

abbrev pub entry_of : List ℕ × ℤ → List ℕ × Data
entry_of e = (e.0, integer e.1)

-- the representation of a value: the map of its entries
abbrev pub rep_of : Value → Data
rep_of v = map_of (members_of (map entry_of v))

-- the root block of a value, built from scratch, and its id
abbrev pub block_of : Value → List ℕ
block_of v = spell (rep_of v)

abbrev pub root_of : Value → List ℕ
root_of v = id_of (block_of v)

-- a plain map has one block
abbrev pub blocks_of : Value → List (List ℕ)
blocks_of v = block_of v ∷ []

-- whether each block of a value is within the limit
abbrev pub is_storable : Value → Bool
is_storable v = nat_le (length (block_of v)) longest_block
