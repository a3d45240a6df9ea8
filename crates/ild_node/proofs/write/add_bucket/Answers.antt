use Rattle.std.proofs.Common.{◌++◌, refl, ap, ◌∙◌, arith}
use Rattle.ild_data.specs.Spell.{spell}
use Rattle.ild_node_slots.specs.Form.{bucket_data}
use Rattle.ild_node.proofs.Writing.{grown-more, row-more, bucket-done}
use Rattle.ild_node.proofs.write.add_bucket.Goals as goal

pub loop-row-preserved : goal.loop-row-preserved
loop-row-preserved c = grown-more _ _ _ _ _ _ c.loop-row.invariant c.in_ok-add_entry.ensures (row-more _ c.loop-row.row-index c.row-item.result (omega arith) c.row-item.is)

pub returns-clause-bucket : goal.returns-clause-bucket
returns-clause-bucket c =
    bucket-done _ _ _ c.as_slice-rows.result.now _ c.loop-row.row-index c.in_ok-head.ensures.ok refl c.loop-row.invariant (omega arith)
    ∙ ap (λ es. c.args.out.now ++ spell (bucket_data es)) c.as_slice-rows.ensures.same
