use Rattle.std.proofs.Common.{arith}
use Rattle.ild_schema.specs.inside.Written.{RowTexts}
use Rattle.ild_schema.proofs.Writing.{one_more, all_of, texts_of_rows}
use Rattle.ild_schema.proofs.texts.texts_of.Goals as goal

pub loop-row-preserved : goal.loop-row-preserved
loop-row-preserved c =
    let here : RowTexts c.row-item.result = record { name = c.as_str.ensures.utf8; def = c.type_def.ensures } in
    one_more RowTexts c.args.rows.now c.loop-row.row-index c.row-item.result (omega (arith, c.loop-row-test.true)) c.row-item.is here c.loop-row.invariant

pub returns : goal.returns
returns c = texts_of_rows c.args.rows.now (all_of RowTexts c.args.rows.now c.loop-row.row-index (omega (arith, c.loop-row-test.false)) c.loop-row.invariant)
