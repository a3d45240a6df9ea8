use Rattle.std.proofs.Common.{ap, ◌∙◌, length, arith}
use Rattle.std.proofs.lemmas.List.{take_all}
use Rattle.ild_hamt.specs.Ends.{agreeing_hashes}
use Rattle.ild_hamt.proofs.Hashed.{count-hash}
use Rattle.ild_hamt.proofs.ending.count.Goals as goal

pub loop-other-preserved : goal.loop-other-preserved
loop-other-preserved c =
    let few = c.loop-other.invariant.few in
    let one = c.agreeing_one.ensures.small in
    let sum = c.saturating_add-count.ensures in
    count-hash c.args.shape c.args.hash.now c.args.depth c.args.hashes.now c.loop-other.other-index c.loop-other.count c.agreeing_one.result c.saturating_add-count.result _
    (omega (arith, c.loop-other-test.true)) one c.agreeing_one.ensures.same (omega (arith, sum, few, one, c.loop-other-test.true)) c.loop-other.invariant

pub returns : goal.returns
returns c = c.loop-other.invariant.is ∙ ap (λ xs. length (agreeing_hashes c.args.shape c.args.hash.now c.args.depth xs)) (take_all c.loop-other.other-index c.args.hashes.now (omega (arith, c.loop-other-test.false)))
