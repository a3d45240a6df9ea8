-- Rows with the hashes of their keys, seen as entries.
use Rattle.std.specs.Prelude.{ℕ, List, map}
use Rattle.ild_data.specs.Data.{Data}
use Rattle.ild_node.specs.Rows.{row_seen}
use Rattle.ild_node.specs.declared.keyed.Keyed.{Keyed}

abbrev pub keyed_seen : Keyed → List ℕ × Data
keyed_seen k = row_seen k.row.now

abbrev pub keyed_rows : List Keyed → List (List ℕ × Data)
keyed_rows ks = map keyed_seen ks
