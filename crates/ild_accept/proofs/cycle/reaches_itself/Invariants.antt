use Rattle.std.proofs.Common.{◌+◌, length}
use Rattle.ild_accept.specs.inside.Search.{Searching, unseen_count}
use Rattle.ild_accept.proofs.cycle.reaches_itself.Given as goal

abbrev pub invariant-loop-n : goal.invariant-loop-n
invariant-loop-n l = Searching l.schema l.from.0 l.seen.items l.stack.items

abbrev pub decreases-loop-n : goal.decreases-loop-n
decreases-loop-n l = unseen_count l.seen.items + length l.stack.items
