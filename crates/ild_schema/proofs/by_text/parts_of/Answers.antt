use Rattle.std.proofs.Common.{arith}
use Rattle.ild_schema.proofs.Finding.{parts_more}
use Rattle.ild_schema.proofs.by_text.parts_of.Goals as goal

pub loop-row-preserved : goal.loop-row-preserved
loop-row-preserved c =
    rw c.in_ok-push.ensures.items
    (parts_more c.args.rows.now c.loop-row.parts.items c.loop-row.row-index c.row-item.result c.in_ok-parts_by_text.field-0
    (omega (arith, c.loop-row-test.true)) c.row-item.is c.loop-row.invariant c.in_ok-parts_by_text.ensures)
