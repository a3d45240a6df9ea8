use Rattle.ild_named_law.proofs.Entered.{paths_entered}
use Rattle.ild_named_law.proofs.paths_are_entered.Goals as goal

pub returns : goal.returns
returns c = paths_entered
