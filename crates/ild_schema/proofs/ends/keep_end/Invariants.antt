use Rattle.ild_schema.proofs.Keeping.{KeepingEnds}
use Rattle.ild_schema.proofs.ends.keep_end.Given as goal

abbrev pub invariant-loop : goal.invariant-loop
invariant-loop l = KeepingEnds l.rows l.initial.ends l.fn.from.0 l.counter l.at.0 l.ends
