use Rattle.std.proofs.Common.{◌≡◌, ◌≤◌, ◌<◌, List, Option, length}
use Rattle.std.specs.Prelude.{IfSome}
use Rattle.ild_splice_changes.specs.TreeChange.{Located}
use Rattle.ild_data.specs.Data.{Data}
use Rattle.ild_path_replaced.specs.Seen.{AreThere, top_of, touched}
use Rattle.ild_path_replaced.proofs.Carrying.{Before, Seeing}
use Rattle.ild_path_replaced.proofs.along.replaced.Given as goal

abbrev pub invariant-loop-k : goal.invariant-loop-k
invariant-loop-k l = (l.k ≤ length l.steps) × Before l.steps l.k l.place × ((ws : List (Option Data)) (e : Located) → AreThere l.steps ws → top_of e ≡ touched l.last → Seeing l.steps ws e l.k l.touch l.place) × IfSome l.place (λ n. n < length l.steps)

abbrev pub decreases-loop-k : goal.decreases-loop-k
decreases-loop-k l = l.k
