use Rattle.std.proofs.Common.{◌≡◌, take}
use Rattle.ild_bulk.specs.Keyed.{hashed_part}
use Rattle.ild_bulk.proofs.plan.part_of.Given as goal

abbrev pub invariant-loop-entry : goal.invariant-loop-entry
invariant-loop-entry l = l.part.items ≡ hashed_part l.shape l.depth (take l.entry-index l.entries) l.i
