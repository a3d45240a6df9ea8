-- Pairs of a key and a block of one byte, as the entries that they stand for.
use Rattle.std.specs.Prelude.{ℕ, List, [], ◌∷◌, map}
use Rattle.std.specs.Borrow.{Bor}
use Rattle.ild_data.specs.Data.{Data}
use Rattle.ild_node_slots.specs.Spelled.{tree_in}

abbrev pub entry_of : Bor (List ℕ) × ℕ → List ℕ × Data
entry_of p = (p.0.now, tree_in (p.1 ∷ []))

abbrev pub entries_of : List (Bor (List ℕ) × ℕ) → List (List ℕ × Data)
entries_of pairs = map entry_of pairs
