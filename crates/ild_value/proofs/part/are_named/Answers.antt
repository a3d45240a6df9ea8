use Rattle.std.proofs.Common.{sym}
use Rattle.std.specs.Prelude.{take}
use Rattle.std.proofs.lemmas.List.{take_all}
use Rattle.ild_value.proofs.Named.{named_more, named_not, named_whole}
use Rattle.ild_value.proofs.part.are_named.Goals as goal

pub loop-pair-preserved : goal.loop-pair-preserved
loop-pair-preserved c =
    named_more c.args.def.now.fields c.as_slice-pair-items.result.now c.loop-pair.pair-index c.pair-item.result c.is_named.result c.as_str.result.now c.loop-pair-test.true c.pair-item.is c.as_str.ensures.same c.is_named.ensures
    c.if-not-is_named.false c.loop-pair.invariant

pub returns-then-not-is_named : goal.returns-then-not-is_named
returns-then-not-is_named c =
    sym (named_not c.args.def.now.fields c.as_slice-pair-items.result.now c.args.entries.now c.loop-pair.pair-index c.pair-item.result c.is_named.result c.as_str.result.now c.as_slice-pair-items.ensures c.loop-pair-test.true c.pair-item.is
    c.as_str.ensures.same c.is_named.ensures c.if-not-is_named.true)

pub returns : goal.returns
returns c =
    sym (named_whole c.args.def.now.fields c.as_slice-pair-items.result.now c.args.entries.now (take c.loop-pair.pair-index c.as_slice-pair-items.result.now) c.as_slice-pair-items.ensures
    (take_all c.loop-pair.pair-index c.as_slice-pair-items.result.now c.loop-pair-test.false) c.loop-pair.invariant)
