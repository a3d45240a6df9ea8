use Rattle.std.proofs.Common.{length}
use Rattle.ild_bulk_walker.proofs.walker.+agrees.Given as goal

abbrev pub decreases-agrees : goal.decreases-agrees
decreases-agrees l = length l.path.now
