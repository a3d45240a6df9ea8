use Rattle.std.proofs.Common.{◌++◌, refl, ap, ◌∙◌, arith}
use Rattle.ild_data.specs.Spell.{spell}
use Rattle.ild_node_slots.specs.Form.{bucket_data}
use Rattle.ild_node.proofs.Writing.{grown-more, row-more, bucket-done}
use Rattle.ild_hamt_climb.proofs.Replaced.{bucket_spelled}
use Rattle.ild_hamt_climb.proofs.element.bucket_element.Goals as goal

pub loop-row-preserved : goal.loop-row-preserved
loop-row-preserved c = grown-more _ _ _ _ _ _ c.loop-row.invariant c.in_ok-add_entry.ensures (row-more _ c.loop-row.row-index c.row-item.result (omega arith) c.row-item.is)

pub returns : goal.returns
returns c = λ p some few.
    bucket_spelled p c.args.rows.now c.finish.result c.as_slice-rows.ensures.rows some few
    (c.finish.ensures
    ∙ bucket-done _ _ _ c.as_slice-rows.result.now _ c.loop-row.row-index c.in_ok-head.ensures.ok refl c.loop-row.invariant (omega arith)
    ∙ ap (λ es. c.new-out.result ++ spell (bucket_data es)) c.as_slice-rows.ensures.same
    ∙ ap (λ b. b ++ spell (bucket_data c.args.rows.now)) c.new-out.ensures)
