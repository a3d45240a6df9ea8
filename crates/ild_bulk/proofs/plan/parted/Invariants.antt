use Rattle.std.proofs.Common.{◌^◌, take}
use Rattle.ild_bulk.specs.Keyed.{Parted, hashed_index}
use Rattle.ild_bulk.proofs.plan.parted.Given as goal

abbrev pub invariant-loop-entry : goal.invariant-loop-entry
invariant-loop-entry l = Parted (hashed_index l.shape l.depth) (2 ^ l.shape.width) (take l.entry-index l.entries) l.parts.items
