use Rattle.std.proofs.Common.{◌+◌, ◌*◌}
use Rattle.ild_schema.specs.Value.{height}
use Rattle.ild_schema.specs.ValueSeen.{value_of}
use Rattle.ild_typed.specs.Fits.{Fits}
use Rattle.ild_typed.specs.OfType.{OfType}
use Rattle.ild_build.proofs.PartTests.{PartsBefore}
use Rattle.ild_build.proofs.room.+room.Given as goal

abbrev pub decreases-fits : goal.decreases-fits
decreases-fits l = 2 * height (value_of l.val.now) + 1

abbrev pub decreases-layer_fits : goal.decreases-layer_fits
decreases-layer_fits l = 2 * height (value_of l.val.now)

abbrev pub invariant-layer_fits-loop-i : goal.invariant-layer_fits-loop-i
invariant-layer_fits-loop-i l = PartsBefore (λ u w. OfType l.acc u w → Fits l.acc l.left u w) l.def (value_of l.val) l.i
