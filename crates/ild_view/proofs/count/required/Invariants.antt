use Rattle.std.proofs.Common.{◌≡◌, ◌+◌, length}
use Rattle.ild_view.specs.Counted.{required_of}
use Rattle.ild_view.proofs.count.required.Given as goal

abbrev pub invariant-loop-field : goal.invariant-loop-field
invariant-loop-field l = l.count + required_of l.rest ≡ required_of l.fields

abbrev pub decreases-loop-field : goal.decreases-loop-field
decreases-loop-field l = length l.rest
