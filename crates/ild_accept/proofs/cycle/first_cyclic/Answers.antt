use Rattle.std.proofs.Common.{arith}
use Rattle.ild_schema.specs.Cycles.{IsCyclic}
use Rattle.ild_accept.proofs.Searches.{none_below, none_at_all, at_false}
use Rattle.ild_accept.proofs.cycle.first_cyclic.Goals as goal

pub loop-n-preserved : goal.loop-n-preserved
loop-n-preserved c = none_below c.args.schema.now c.loop-n.n c.loop-n.invariant (at_false (IsCyclic c.args.schema.now c.loop-n.n) c.in_ok-is_cyclic.field-0 c.if-branch.false c.in_ok-is_cyclic.ensures)

pub returns : goal.returns
returns c = none_at_all c.args.schema.now c.loop-n.n (omega arith) c.loop-n.invariant
