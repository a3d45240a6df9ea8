use Rattle.std.proofs.Common.{◌∙◌, ap, arith}
use Rattle.std.proofs.lemmas.List.{take_all}
use Rattle.ild_hamt_samples.specs.Pairs.{entries_of}
use Rattle.ild_hamt_samples.proofs.Pairs.{entries-more}
use Rattle.ild_hamt_samples.proofs.rows.rows_of.Goals as goal

pub loop-pair-preserved : goal.loop-pair-preserved
loop-pair-preserved c = entries-more c.args.pairs.now c.loop-pair.pair-index _ c.loop-pair.rows c.push.new.rows (omega (arith, c.loop-pair-test.true)) c.loop-pair.invariant c.in_ok-push.ensures

pub returns : goal.returns
returns c = c.loop-pair.invariant ∙ ap entries_of (take_all c.loop-pair.pair-index c.args.pairs.now (omega (arith, c.loop-pair-test.false)))
