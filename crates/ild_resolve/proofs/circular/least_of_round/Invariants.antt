use Rattle.ild_resolve.proofs.Rounds.{Rounds}
use Rattle.ild_resolve.proofs.circular.least_of_round.Given as goal

abbrev pub invariant-loop : goal.invariant-loop
invariant-loop l = Rounds l.rows l.from l.at l.least l.counter
