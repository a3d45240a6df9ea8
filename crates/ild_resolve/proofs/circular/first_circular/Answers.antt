use Rattle.std.proofs.Common.{arith}
use Rattle.ild_resolve.proofs.Walks.{found_none, found_first}
use Rattle.ild_resolve.proofs.circular.first_circular.Goals as goal

pub returns-clause-none : goal.returns-clause-none
returns-clause-none c = λ none. found_none c.args.rows.now c.loop-n.marks.items c.loop-n.n c.loop-n.first (omega (arith, c.loop-n-test.false)) c.loop-n.invariant (cc none)

pub returns-clause-first : goal.returns-clause-first
returns-clause-first c = found_first c.args.rows.now c.loop-n.marks.items c.loop-n.n c.loop-n.first (omega (arith, c.loop-n-test.false)) c.loop-n.invariant
