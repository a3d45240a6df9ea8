use Rattle.std.proofs.Common.{take, map}
use Rattle.ild_data.specs.Seen.{pair_of}
use Rattle.ild_data.proofs.Rising.{AreParts}
use Rattle.ild_data.proofs.tree.Entries.from_vec.Given as goal

abbrev pub invariant-loop-pair : goal.invariant-loop-pair
invariant-loop-pair l = AreParts (map pair_of (take l.pair-index l.pair-items))
