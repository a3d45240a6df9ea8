use Rattle.ild_schema.proofs.Keeping.{Going}
use Rattle.ild_schema.proofs.ends.end_from.Given as goal

abbrev pub invariant-loop : goal.invariant-loop
invariant-loop l = Going l.rows l.fn.from.0 l.counter l.at.0
