use Rattle.std.proofs.Common.{length, ◌-◌}
use Rattle.ild_text.proofs.Counts.{Counting}
use Rattle.ild_text.proofs.place.count_parts.Given as goal

abbrev pub invariant-loop-at : goal.invariant-loop-at
invariant-loop-at l = Counting l.delim l.text l.from l.free l.count

abbrev pub decreases-loop-at : goal.decreases-loop-at
decreases-loop-at l = length l.text - l.from
