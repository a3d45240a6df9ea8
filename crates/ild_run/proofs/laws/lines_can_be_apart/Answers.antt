use Rattle.ild_run.proofs.Apart.{lines_apart}
use Rattle.ild_run.proofs.laws.lines_can_be_apart.Goals as goal

pub returns : goal.returns
returns c = lines_apart
