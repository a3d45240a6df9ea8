use Rattle.ild_hamt.proofs.Hashed.{CountedTo}
use Rattle.ild_hamt.proofs.ending.count.Given as goal

abbrev pub invariant-loop-other : goal.invariant-loop-other
invariant-loop-other l = CountedTo l.shape l.hash l.depth l.hashes l.other-index l.count
