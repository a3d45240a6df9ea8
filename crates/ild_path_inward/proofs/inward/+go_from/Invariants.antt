use Rattle.std.proofs.Common.{length}
use Rattle.ild_path_inward.proofs.inward.+go_from.Given as goal

abbrev pub decreases-go_from : goal.decreases-go_from
decreases-go_from g l = length l.segments.now
