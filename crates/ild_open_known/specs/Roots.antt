-- What was found sound: of each HAMT what it was read as and the bytes of its root, and of each node beneath a root what its HAMT was read
-- as, its id and the way to it.
use Rattle.std.specs.Prelude.{ℕ, List, map}
use Rattle.std.specs.Map.{values_of}
use Rattle.ild_open_known.specs.declared.kind.ReadAs.{ReadAs}
use Rattle.ild_open_known.specs.declared.table.Known.{Known}
use Rattle.ild_open_known.specs.declared.table.Root.{Root}
use Rattle.ild_open_known.specs.declared.table.Spot.{Spot}

abbrev pub seen_root : Root → ReadAs × List ℕ
seen_root r = (r.read_as, r.bytes)

abbrev pub known_in : Known → List (ReadAs × List ℕ)
known_in k = map seen_root (values_of k.roots.entries)

abbrev pub seen_spot : Spot → ReadAs × List ℕ × List ℕ
seen_spot s = (s.read_as, s.id.0, s.way)

abbrev pub nodes_in : Known → List (ReadAs × List ℕ × List ℕ)
nodes_in k = map seen_spot (values_of k.nodes.entries)
