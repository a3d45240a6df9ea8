use Rattle.std.proofs.Common.{◌≡◌, None, length}
use Rattle.ild_layer_pairs.specs.Apart.{climbs}
use Rattle.ild_layer_pairs.proofs.apart.climb.Given as goal

abbrev pub invariant-loop-number : goal.invariant-loop-number
invariant-loop-number l = climbs l.before l.left ≡ climbs None l.fn.numbers

abbrev pub decreases-loop-number : goal.decreases-loop-number
decreases-loop-number l = length l.left
