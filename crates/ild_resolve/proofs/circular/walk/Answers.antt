use Rattle.std.proofs.Common.{◌≡◌, ◌+◌, sym, ◌∙◌, get_or, arith}
use Rattle.ild_resolve.specs.inside.Marks.{mark_at}
use Rattle.ild_resolve.proofs.Walks.{mark_read, walk_goes, walk_ends, walk_meets, walk_joins}
use Rattle.ild_resolve.proofs.circular.walk.Goals as goal

pub loop-marks-preserved : goal.loop-marks-preserved
loop-marks-preserved c = walk_goes c.args.rows.now c.args.marks.now c.loop-marks.marks c.args.from (c.args.from + 1) c.loop-marks.at c.in-Some.target c.loop-marks.invariant (omega arith) (omega arith) (mark_read c.loop-marks.marks c.loop-marks.at (omega (arith, c.loop-marks.invariant.within)) ∙ c.loop-marks-test.true) c.in-Some.ensures.0 c.in-Some.ensures.1

pub returns-in-None : goal.returns-in-None
returns-in-None c = walk_ends c.args.rows.now c.args.marks.now c.loop-marks.marks c.args.from (c.args.from + 1) c.loop-marks.at c.loop-marks.invariant (omega arith) (omega arith) (mark_read c.loop-marks.marks c.loop-marks.at (omega (arith, c.loop-marks.invariant.within)) ∙ c.loop-marks-test.true) c.in-None.ensures

pub returns-then-marks-at : goal.returns-then-marks-at
returns-then-marks-at c = walk_meets c.args.rows.now c.args.marks.now c.loop-marks.marks c.args.from (c.args.from + 1) c.loop-marks.at c.loop-marks.invariant (omega arith) (omega (arith, c.requires.low c.loop-marks.at c.loop-marks.invariant.within)) (mark_read c.loop-marks.marks c.loop-marks.at (omega (arith, c.loop-marks.invariant.within)) ∙ c.if-marks-at.true)

pub returns-else-marks-at : goal.returns-else-marks-at
returns-else-marks-at c =
    let read : mark_at c.loop-marks.marks c.loop-marks.at ≡ get_or c.loop-marks.marks c.loop-marks.at 0 = mark_read c.loop-marks.marks c.loop-marks.at (omega (arith, c.loop-marks.invariant.within)) in
    walk_joins c.args.rows.now c.args.marks.now c.loop-marks.marks c.args.from (c.args.from + 1) c.loop-marks.at c.loop-marks.invariant c.requires.closed (omega (arith, read, c.loop-marks-test.false)) (λ same. c.if-marks-at.false (sym read ∙ same))
