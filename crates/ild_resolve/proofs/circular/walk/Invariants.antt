use Rattle.std.proofs.Common.{◌+◌}
use Rattle.ild_resolve.proofs.Walks.{Walking, unseen_count}
use Rattle.ild_resolve.proofs.circular.walk.Given as goal

abbrev pub invariant-loop-marks : goal.invariant-loop-marks
invariant-loop-marks l = Walking l.rows l.initial.marks l.marks l.from (l.from + 1) l.at

abbrev pub decreases-loop-marks : goal.decreases-loop-marks
decreases-loop-marks l = unseen_count l.marks
