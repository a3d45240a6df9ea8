use Rattle.ild_path_passed.proofs.Whole.{values_are_passed}
use Rattle.ild_path_passed.proofs.laws.values_pass.Goals as goal

pub returns : goal.returns
returns c = values_are_passed
