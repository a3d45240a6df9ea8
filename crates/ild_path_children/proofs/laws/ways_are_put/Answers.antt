use Rattle.ild_path_children.proofs.Mapping.{are_put}
use Rattle.ild_path_children.proofs.laws.ways_are_put.Goals as goal

pub returns : goal.returns
returns c = are_put
