use Rattle.ild_open_held.proofs.Roots.{standing_are_held as law}
use Rattle.ild_open_held.proofs.laws.standing_are_held.Goals as goal

pub returns : goal.returns
returns c = law
