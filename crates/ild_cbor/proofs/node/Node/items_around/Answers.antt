use Rattle.std.proofs.Common.{arith}
use Rattle.ild_cbor.proofs.Around.{around}
use Rattle.ild_cbor.proofs.node.Node.items_around.Goals as goal

pub returns : goal.returns
returns c = λ xs ys zs h one two.
    around c.args.self.now c.start.result c.args.i c.args.m c.saturating_sub-front.result c.skip-from.result.now c.skip.result.now xs ys zs h (c.start.ensures _ h) one two c.skip-from.ensures c.skip.ensures (omega arith)
