use Rattle.ild_path_tells.proofs.Telling.{places_tell}
use Rattle.ild_path_tells.proofs.laws.places_tell.Goals as goal

pub returns : goal.returns
returns c = places_tell
