use Rattle.ild_inclusion.proofs.Ways.{beneath_given, beneath_wrong}
use Rattle.ild_inclusion.proofs.way.next_node.Goals as goal

pub returns-in-Ok : goal.returns-in-Ok
returns-in-Ok c = beneath_given c.args.shape c.args.id.now.0 c.args.at c.args.left.now c.as_slice.result.now c.in-Some.block.now c.in-Some.left c.in-Ok.node c.in-Some.ensures.cases.0 c.as_slice.ensures.same c.in-Ok.ensures

pub returns-in-Err : goal.returns-in-Err
returns-in-Err c = beneath_wrong c.args.shape c.args.id.now.0 c.args.at c.args.left.now c.as_slice.result.now c.in-Some.block.now c.in-Some.left.now c.in-Err.reject c.in-Some.ensures.cases.0 c.as_slice.ensures.same c.in-Err.ensures
