use Rattle.ild_path_edits.proofs.Depth.{depth_along}
use Rattle.ild_path_edits.proofs.Firsts.{first_along}
use Rattle.ild_path_edits.proofs.LayerTesting.{judged_along, set_is_judged}
use Rattle.ild_path_edits.proofs.laws.changes_are_judged_along_the_path.Goals as goal

pub returns : goal.returns
returns c = record { layers = judged_along; set = set_is_judged; depth = depth_along; first = first_along }
