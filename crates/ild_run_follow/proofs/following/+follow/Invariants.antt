use Rattle.std.proofs.Common.{◌+◌, ◌-◌, ◌*◌, length}
use Rattle.ild_run_follow.proofs.following.+follow.Given as goal

abbrev pub decreases-tell_from : goal.decreases-tell_from
decreases-tell_from g l = 2 * (length l.path.now - l.from) + 1

abbrev pub decreases-tell_in : goal.decreases-tell_in
decreases-tell_in g l = 2 * (length l.path.now - l.k)
