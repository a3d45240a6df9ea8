use Rattle.ild_path_found.proofs.Siting.{parts_stand}
use Rattle.ild_path_found.proofs.laws.parts_stand_in_data.Goals as goal

pub returns : goal.returns
returns c = parts_stand
