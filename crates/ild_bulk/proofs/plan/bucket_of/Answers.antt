use Rattle.std.proofs.Common.{arith}
use Rattle.ild_bulk.proofs.Tries.{copied-more}
use Rattle.ild_bulk.proofs.plan.bucket_of.Goals as goal

pub loop-keyed-preserved : goal.loop-keyed-preserved
loop-keyed-preserved c =
    copied-more c.loop-keyed.copies.items c.args.rows.now c.loop-keyed.keyed-index c.keyed-item.result _ c.in_ok-copy.field-0 c.loop-keyed.invariant c.in_ok-copy.ensures c.in_ok-push.ensures.items (omega arith) c.keyed-item.is
