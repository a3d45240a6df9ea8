use Rattle.std.proofs.Common.{ℕ, List, ◌≤◌, length}
use Rattle.ild_data.specs.Data.{Data}
use Rattle.ild_struct.specs.Present.{HasPresent, count_left}
use Rattle.ild_layer_parts.proofs.Sweeping.{Sweeping}
use Rattle.ild_layer_parts.proofs.past_fields.past_fields.Given as goal

abbrev pub invariant-loop-i : goal.invariant-loop-i
invariant-loop-i l = (l.first ≤ length l.fields.def.now.fields) × ((all : List (ℕ × Data)) → HasPresent l.initial.present all → Sweeping l.acc l.fields.def.now.fields all l.first l.present)

abbrev pub decreases-loop-i : goal.decreases-loop-i
decreases-loop-i l = count_left l.present.left
