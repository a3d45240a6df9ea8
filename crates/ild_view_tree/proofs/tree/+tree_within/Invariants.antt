use Rattle.std.proofs.Common.{◌≤◌, ◌-◌}
use Rattle.ild_cbor.specs.Nodes.{HasData}
use Rattle.ild_data.specs.Data.{Data, depth}
use Rattle.ild_view_tree.proofs.Treeing.{ItemsRead, MembersRead}
use Rattle.ild_view_tree.proofs.tree.+tree_within.Given as goal

abbrev pub decreases-tree_within : goal.decreases-tree_within
decreases-tree_within l = l.room

abbrev pub invariant-loop-item : goal.invariant-loop-item
invariant-loop-item l = (t : Data) → HasData l.node t → depth t ≤ l.room → ItemsRead t (l.room - 1) l.trees l.left

abbrev pub invariant-loop-key : goal.invariant-loop-key
invariant-loop-key l = (t : Data) → HasData l.node t → depth t ≤ l.room → MembersRead t (l.room - 1) l.members l.rest
