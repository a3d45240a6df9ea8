use Rattle.std.proofs.Common.{length}
use Rattle.ild_open_nodes.proofs.place.+agrees.Given as goal

abbrev pub decreases-agrees : goal.decreases-agrees
decreases-agrees l = length l.way.now
