use Rattle.ild_node.proofs.Placing.{Passed}
use Rattle.ild_node.proofs.placed.place_of.Given as goal

abbrev pub invariant-loop-i : goal.invariant-loop-i
invariant-loop-i l = Passed l.key l.rows l.i
