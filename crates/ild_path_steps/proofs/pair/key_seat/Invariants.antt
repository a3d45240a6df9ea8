use Rattle.std.proofs.Common.{ℕ, List}
use Rattle.ild_data.specs.Data.{Data}
use Rattle.ild_path_steps.proofs.Pairing.{Seeking}
use Rattle.ild_path_steps.proofs.pair.key_seat.Given as goal
use Rattle.ild_path_steps.specs.Seats.{HasPairs}

abbrev pub invariant-loop-item : goal.invariant-loop-item
invariant-loop-item l = (es : List (List ℕ × Data)) → HasPairs l.items es → Seeking l.key es l.place l.left
