use Rattle.std.proofs.Common.{◌^◌}
use Rattle.ild_bulk.proofs.Parting.{EmptiedTo}
use Rattle.ild_bulk.proofs.plan.emptied.Given as goal

abbrev pub invariant-loop-i : goal.invariant-loop-i
invariant-loop-i l = EmptiedTo (2 ^ l.fn.shape.width) l.i l.parts.items
