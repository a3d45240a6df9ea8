use Rattle.std.proofs.Common.{◌-◌}
use Rattle.ild_data.specs.Data.{Data}
use Rattle.ild_cbor.specs.Nodes.{HasData}
use Rattle.ild_view_walk.proofs.Nesting.{ItemsNest, MembersNest}
use Rattle.ild_view_walk.proofs.any.+nests_within.Given as goal

abbrev pub decreases-nests_within : goal.decreases-nests_within
decreases-nests_within l = l.room

abbrev pub invariant-loop-item : goal.invariant-loop-item
invariant-loop-item l = (t : Data) → HasData l.node t → ItemsNest t (l.room - 1) l.left

abbrev pub invariant-loop-value : goal.invariant-loop-value
invariant-loop-value l = (t : Data) → HasData l.node t → MembersNest t (l.room - 1) l.rest
