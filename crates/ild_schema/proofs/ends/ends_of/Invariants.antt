use Rattle.ild_schema.proofs.Keeping.{Kept}
use Rattle.ild_schema.proofs.ends.ends_of.Given as goal

abbrev pub invariant-loop-n : goal.invariant-loop-n
invariant-loop-n l = Kept l.rows l.n l.ends.items
