use Rattle.std.proofs.Common.{◌≡◌, map, take}
use Rattle.ild_data.specs.Data.{text}
use Rattle.ild_data.specs.Seen.{data_of}
use Rattle.ild_run.proofs.listed.trees_of.Given as goal

abbrev pub invariant-loop-name : goal.invariant-loop-name
invariant-loop-name l = map data_of l.trees.items ≡ map text (take l.name-index l.names)
