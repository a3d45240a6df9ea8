use Rattle.ild_build.proofs.Holes.{IsMet}
use Rattle.ild_build.proofs.hole.leaves_hole.Given as goal

abbrev pub invariant-loop-i : goal.invariant-loop-i
invariant-loop-i l = IsMet l.fields l.absent l.i
