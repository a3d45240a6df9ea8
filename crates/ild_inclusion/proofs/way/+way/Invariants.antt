use Rattle.std.proofs.Common.{length}
use Rattle.ild_inclusion.proofs.way.+way.Given as goal

abbrev pub decreases-find_end : goal.decreases-find_end
decreases-find_end l = length l.left.now
