use Rattle.std.proofs.Common.{◌<◌, ◌^◌, ℕ, List}
use Rattle.ild_data.specs.Data.{Data}
use Rattle.ild_struct.specs.Present.{HasPresent}
use Rattle.ild_view.proofs.Counting.{Tallied}
use Rattle.ild_view.specs.Counted.{optional_of}
use Rattle.ild_view.proofs.count.optional_written.Given as goal

abbrev pub invariant-loop-number : goal.invariant-loop-number
invariant-loop-number l = (xs : List (ℕ × Data)) → HasPresent l.present xs → optional_of l.fields xs < 2 ^ 64 → Tallied l.fields xs l.count l.left
