use Rattle.std.proofs.Common.{◌≡◌, ◌≤◌, ◌*◌}
use Rattle.ild_node_slots.specs.inside.Reading.{ones_below}
use Rattle.ild_node_slots.proofs.parts.ones_below.Given as goal

abbrev pub invariant-loop-j : goal.invariant-loop-j
invariant-loop-j l = record { count : l.below ≡ ones_below l.ones (8 * l.j); few : l.below ≤ 8 * l.j }

abbrev pub invariant-loop-j-2 : goal.invariant-loop-j-2
invariant-loop-j-2 l = record { count : l.below ≡ ones_below l.ones l.j; few : l.below ≤ l.j }
