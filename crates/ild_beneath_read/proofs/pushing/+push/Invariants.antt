use Rattle.std.proofs.Common.{List, ◌+◌, ◌*◌}
use Rattle.ild_beneath.specs.Children.{found, node_children}
use Rattle.ild_cbor.specs.Nodes.{HasData}
use Rattle.ild_data.specs.Data.{Data}
use Rattle.ild_open_held.specs.Splits.{Part}
use Rattle.ild_beneath_read.specs.inside.Left.{AreWithin, IsLeft, parts_left}
use Rattle.ild_beneath_read.proofs.Appending.{Going, Walking}
use Rattle.ild_beneath_read.proofs.pushing.+push.Given as goal

abbrev pub decreases-push_slot : goal.decreases-push_slot
decreases-push_slot l = 5 * l.steps

abbrev pub decreases-push_parts : goal.decreases-push_parts
decreases-push_parts l = 5 * l.steps + 1

abbrev pub decreases-push_named : goal.decreases-push_named
decreases-push_named l = 5 * l.steps + 2

abbrev pub decreases-push_listed : goal.decreases-push_listed
decreases-push_listed l = 5 * l.steps + 2

abbrev pub decreases-push_element : goal.decreases-push_element
decreases-push_element l = 5 * l.steps + 2

abbrev pub decreases-push_node : goal.decreases-push_node
decreases-push_node l = 5 * l.steps + 3

abbrev pub invariant-push_parts-loop-part : goal.invariant-push_parts-loop-part
invariant-push_parts-loop-part l = AreWithin l.acc l.left × ((ps : List Part) → IsLeft l.parts ps → Going l.acc l.steps l.initial.out.items ps l.left l.out.items)

abbrev pub decreases-push_parts-loop-part : goal.decreases-push_parts-loop-part
decreases-push_parts-loop-part l = parts_left l.left

abbrev pub invariant-push_node-loop-element : goal.invariant-push_node-loop-element
invariant-push_node-loop-element l = (d : Data) → HasData l.node d → Walking (found l.acc l.steps l.value) l.kind l.initial.out.items (node_children (found l.acc l.steps l.value) l.kind d) l.left l.out.items
