use Rattle.ild_hamt_climb.proofs.Upward.{slot-below}
use Rattle.ild_hamt_climb.proofs.lifting.index_at.Goals as goal

pub returns-in-Some-clause-slot : goal.returns-in-Some-clause-slot
returns-in-Some-clause-slot c = slot-below c.args.shape c.args.hash.now c.args.depth c.in-Some.i c.in-Some.ensures
