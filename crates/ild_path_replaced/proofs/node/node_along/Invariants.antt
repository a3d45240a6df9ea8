use Rattle.std.proofs.Common.{◌≡◌, ◌-◌, [], length, Some}
use Rattle.ild_splice_changes.specs.TreeChange.{part_at}
use Rattle.ild_data.specs.Data.{Data}
use Rattle.ild_splice.specs.Splices.{IsAt}
use Rattle.ild_path_replaced.specs.Seen.{all_steps}
use Rattle.ild_path_replaced.proofs.Noding.{Reaching}
use Rattle.ild_path_replaced.proofs.node.node_along.Given as goal

abbrev pub invariant-loop-k : goal.invariant-loop-k
invariant-loop-k l = (t d : Data) → IsAt l.root t [] t → part_at (all_steps l.steps) t ≡ Some d → Reaching l.steps t d l.k l.node

abbrev pub decreases-loop-k : goal.decreases-loop-k
decreases-loop-k l = length l.steps - l.k
