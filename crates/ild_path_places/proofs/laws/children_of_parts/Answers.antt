use Rattle.ild_path_places.proofs.Along.{children_of_parts}
use Rattle.ild_path_places.proofs.laws.children_of_parts.Goals as goal

pub returns : goal.returns
returns c = children_of_parts
