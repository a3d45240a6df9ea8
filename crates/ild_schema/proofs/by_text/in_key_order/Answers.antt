use Rattle.std.proofs.Common.{arith}
use Rattle.ild_schema.specs.Indexed.{labels}
use Rattle.ild_schema.proofs.Finding.{upto_more}
use Rattle.ild_schema.proofs.by_text.in_key_order.Goals as goal

pub loop-part-preserved : goal.loop-part-preserved
loop-part-preserved c =
    upto_more (labels c.args.label c.args.def.now) c.loop-part.part c.loop-part.numbers.items c.put_first.new.numbers.items (omega (arith, c.loop-part-test.true, c.count_parts-count.ensures c.args.label)) c.loop-part.invariant
    c.in_ok-put_first.ensures
