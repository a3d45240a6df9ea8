use Rattle.ild_path_holder.proofs.Carrying.{along_is_lifted}
use Rattle.ild_path_holder.proofs.laws.along_is_lifted.Goals as goal

pub returns : goal.returns
returns c = along_is_lifted
