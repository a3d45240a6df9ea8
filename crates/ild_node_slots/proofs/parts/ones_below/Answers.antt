use Rattle.std.proofs.Common.{arith}
use Rattle.ild_node_slots.proofs.Counts.{ones-byte}
use Rattle.ild_node_slots.proofs.parts.ones_below.Goals as goal

pub loop-j-preserved : goal.loop-j-preserved
loop-j-preserved c = record {
  count = ones-byte c.args.ones.now c.loop-j.j c.loop-j.below c.ones_in-below.result c.loop-j.invariant.count c.ones_in-below.ensures.count;
  few = omega (arith, c.loop-j.invariant.few, c.ones_in-below.ensures.few);
}
