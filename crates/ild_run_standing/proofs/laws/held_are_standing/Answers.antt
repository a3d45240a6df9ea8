use Rattle.ild_run_standing.proofs.Held.{held_are_standing}
use Rattle.ild_run_standing.proofs.laws.held_are_standing.Goals as goal

pub returns : goal.returns
returns c = held_are_standing
