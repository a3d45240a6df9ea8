use Rattle.std.proofs.Common.{arith}
use Rattle.ild_bulk.proofs.Parting.{parted-next}
use Rattle.ild_bulk.proofs.plan.parted.Goals as goal

pub loop-entry-preserved : goal.loop-entry-preserved
loop-entry-preserved c =
    parted-next c.args.shape c.args.depth c.args.entries.now c.loop-entry.entry-index c.loop-entry.parts.items _ c.index_of-index.result c.index_mut.result.now c.push.new.self c.loop-entry.invariant
    c.index_of-index.ensures.index c.index_mut.ensures.value c.in_ok-push.ensures.items (omega arith)
