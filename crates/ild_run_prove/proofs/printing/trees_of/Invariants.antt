use Rattle.std.proofs.Common.{◌≡◌, map, take}
use Rattle.ild_data.specs.Data.{bytes}
use Rattle.ild_data.specs.Seen.{data_of}
use Rattle.ild_run_prove.proofs.printing.trees_of.Given as goal

abbrev pub invariant-loop-block : goal.invariant-loop-block
invariant-loop-block l = map data_of l.trees.items ≡ map bytes (take l.block-index l.blocks)
