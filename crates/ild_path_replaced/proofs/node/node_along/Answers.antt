use Rattle.std.proofs.Common.{◌+◌, refl}
use Rattle.ild_path_replaced.proofs.Noding.{begins, ends, goes_on, stuck}
use Rattle.ild_path_replaced.proofs.node.node_along.Goals as goal

pub loop-k-init : goal.loop-k-init
loop-k-init c = λ t d at h. begins c.args.steps.now t d c.args.root at h

pub returns-in-None : goal.returns-in-None
returns-in-None c = λ t d at h. stuck c.args.steps.now t d c.loop-k.k c.loop-k.node (c.loop-k.invariant t d at h) _ c.loop-k-test.true c.part_of.result c.part_of.ensures c.in-None.is

pub loop-k-preserved : goal.loop-k-preserved
loop-k-preserved c = λ t d at h.
    goes_on c.args.steps.now t d c.loop-k.k c.loop-k.node (c.loop-k.invariant t d at h) _ c.loop-k-test.true c.part_of.result c.part_of.ensures c.in-Some.next (c.loop-k.k + 1) c.in-Some.is refl

pub returns : goal.returns
returns c = λ t d at h. ends c.args.steps.now t d c.loop-k.k c.loop-k.node (c.loop-k.invariant t d at h) c.loop-k-test.false
