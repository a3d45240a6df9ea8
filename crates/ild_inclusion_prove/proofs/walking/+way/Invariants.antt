use Rattle.std.proofs.Common.{◌+◌, ◌*◌, length}
use Rattle.ild_inclusion_prove.proofs.walking.+way.Given as goal

abbrev pub decreases-follow : goal.decreases-follow
decreases-follow g l = 2 * length l.segments.now

abbrev pub decreases-enter : goal.decreases-enter
decreases-enter g l = 2 * length l.behind.now + 1
