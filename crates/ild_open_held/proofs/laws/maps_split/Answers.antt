use Rattle.ild_open_held.proofs.Splitting.{maps_split as law}
use Rattle.ild_open_held.proofs.laws.maps_split.Goals as goal

pub returns : goal.returns
returns c = law
