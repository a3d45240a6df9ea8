use Rattle.ild_path_holder.proofs.Standing.{steps_stand}
use Rattle.ild_path_holder.proofs.laws.steps_stand.Goals as goal

pub returns : goal.returns
returns c = steps_stand
