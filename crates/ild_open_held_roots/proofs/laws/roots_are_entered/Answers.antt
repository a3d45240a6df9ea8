use Rattle.ild_open_held_roots.proofs.Entering.{roots_are_entered}
use Rattle.ild_open_held_roots.proofs.laws.roots_are_entered.Goals as goal

pub returns : goal.returns
returns c = roots_are_entered
