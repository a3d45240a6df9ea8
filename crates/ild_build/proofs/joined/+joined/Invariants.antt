use Rattle.std.proofs.Common.{◌≡◌, false}
use Rattle.ild_schema.specs.Value.{height}
use Rattle.ild_schema.specs.ValueSeen.{value_of}
use Rattle.ild_typed.specs.Judged.{has_hole, breaks_delimiter}
use Rattle.ild_typed.specs.Typed.{Typed}
use Rattle.ild_build.proofs.PartTests.{PartsBefore}
use Rattle.ild_build.proofs.joined.+joined.Given as goal

abbrev pub decreases-breaks_delimiter : goal.decreases-breaks_delimiter
decreases-breaks_delimiter l = height (value_of l.val.now)

abbrev pub invariant-loop-i : goal.invariant-loop-i
invariant-loop-i l = PartsBefore (λ u w. Typed l.acc u w → has_hole l.acc u w ≡ false → breaks_delimiter l.acc u w ≡ false) l.def (value_of l.val) l.i
