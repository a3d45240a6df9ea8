use Rattle.std.proofs.Common.{arith}
use Rattle.ild_hamt_climb.proofs.PutEach.{other-more, other-done}
use Rattle.ild_hamt_climb.proofs.gathering.rows_without.Goals as goal

pub loop-i-preserved : goal.loop-i-preserved
loop-i-preserved c = λ es has.
    other-more c.args.key.now es c.loop-i.rows c.put_other.new.rows c.loop-i.i (omega (arith, c.loop-i-test.true, c.len-i-end.ensures es has)) (c.loop-i.invariant es has) (c.in_ok-put_other.ensures es has)

pub returns : goal.returns
returns c = λ es has order.
    other-done c.args.key.now es c.loop-i.rows c.loop-i.i order (omega (arith, c.loop-i-test.false, c.len-i-end.ensures es has)) (c.loop-i.invariant es has)
