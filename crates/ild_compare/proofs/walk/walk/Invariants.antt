use Rattle.std.proofs.Common.{◌-◌, ◌^◌, map}
use Rattle.ild_dirty.specs.Beneath.{child_seen}
use Rattle.ild_compare.proofs.Walking.{Walked}
use Rattle.ild_compare.proofs.walk.walk.Given as goal

abbrev pub invariant-loop-passed : goal.invariant-loop-passed
invariant-loop-passed g l =
    Walked l.acc l.ty l.root (g.K.Store.moment l.initial.left) (g.L.Store.moment l.initial.right) l.passed (map child_seen l.list.items) (g.K.Store.moment l.left) (g.L.Store.moment l.right)

abbrev pub decreases-loop-passed : goal.decreases-loop-passed
decreases-loop-passed g l = 2 ^ 64 - l.passed
