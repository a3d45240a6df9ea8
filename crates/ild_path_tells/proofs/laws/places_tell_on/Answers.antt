use Rattle.ild_path_tells.proofs.Telling.{places_tell_on}
use Rattle.ild_path_tells.proofs.laws.places_tell_on.Goals as goal

pub returns : goal.returns
returns c = places_tell_on
