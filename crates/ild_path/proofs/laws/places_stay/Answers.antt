use Rattle.ild_path.proofs.Staying.{places_stay}
use Rattle.ild_path.proofs.laws.places_stay.Goals as goal

pub returns : goal.returns
returns c = places_stay
