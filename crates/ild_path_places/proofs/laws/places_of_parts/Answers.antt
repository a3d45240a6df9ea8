use Rattle.ild_path_places.proofs.Along.{places_of_parts}
use Rattle.ild_path_places.proofs.laws.places_of_parts.Goals as goal

pub returns : goal.returns
returns c = places_of_parts
