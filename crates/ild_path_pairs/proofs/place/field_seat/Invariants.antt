use Rattle.std.proofs.Common.{◌-◌}
use Rattle.ild_text.specs.Parts.{pairs_in}
use Rattle.ild_path_pairs.proofs.Walking.{Walk}
use Rattle.ild_path_pairs.proofs.place.field_seat.Given as goal

abbrev pub invariant-loop-i : goal.invariant-loop-i
invariant-loop-i l = Walk l.fields l.number (pairs_in l.fn.split) l.i l.place (pairs_in l.left)

abbrev pub decreases-loop-i : goal.decreases-loop-i
decreases-loop-i l = l.number - l.i
