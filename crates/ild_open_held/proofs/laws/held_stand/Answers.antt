use Rattle.ild_open_held.proofs.Roots.{held_stand as law}
use Rattle.ild_open_held.proofs.laws.held_stand.Goals as goal

pub returns : goal.returns
returns c = law
