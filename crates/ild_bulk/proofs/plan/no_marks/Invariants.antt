use Rattle.ild_bulk.specs.Keyed.{AreBare}
use Rattle.ild_bulk.proofs.plan.no_marks.Given as goal

abbrev pub invariant-loop : goal.invariant-loop
invariant-loop l = AreBare l.counter l.parts.items
