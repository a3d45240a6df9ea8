use Rattle.ild_path_children.proofs.Mapping.{are_cut}
use Rattle.ild_path_children.proofs.laws.ways_are_cut.Goals as goal

pub returns : goal.returns
returns c = are_cut
