use Rattle.std.proofs.Common.{length}
use Rattle.ild_text.proofs.Behind.{Same}
use Rattle.ild_text.proofs.mark.behind_digits.Given as goal

abbrev pub invariant-loop-left : goal.invariant-loop-left
invariant-loop-left l = Same l.digits l.bytes l.left l.rest

abbrev pub decreases-loop-left : goal.decreases-loop-left
decreases-loop-left l = length l.left
