use Rattle.std.proofs.Common.{◌≡◌, drop}
use Rattle.ild_dirty.specs.inside.Walk.{are_marked}
use Rattle.ild_dirty.proofs.order.are_marked.Given as goal

abbrev pub invariant-loop-i : goal.invariant-loop-i
invariant-loop-i l = are_marked l.marks l.numbers ≡ are_marked l.marks (drop l.i-index l.numbers)
