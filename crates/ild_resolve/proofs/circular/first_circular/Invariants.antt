use Rattle.ild_resolve.specs.inside.Marks.{Sought}
use Rattle.ild_resolve.proofs.circular.first_circular.Given as goal

abbrev pub invariant-loop-n : goal.invariant-loop-n
invariant-loop-n l = Sought l.rows l.marks.items l.n l.first
