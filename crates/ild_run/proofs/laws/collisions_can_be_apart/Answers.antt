use Rattle.ild_run.proofs.Apart.{can_be_apart}
use Rattle.ild_run.proofs.laws.collisions_can_be_apart.Goals as goal

pub returns : goal.returns
returns c = can_be_apart
