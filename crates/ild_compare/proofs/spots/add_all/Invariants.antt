use Rattle.std.proofs.Common.{map, take}
use Rattle.ild_dirty.specs.Beneath.{child_seen}
use Rattle.ild_compare.specs.inside.Spots.{Grows}
use Rattle.ild_compare.proofs.spots.add_all.Given as goal

abbrev pub invariant-loop-child : goal.invariant-loop-child
invariant-loop-child l = Grows (map child_seen (take l.child-index l.found)) (map child_seen l.initial.list.items) (map child_seen l.list.items)
