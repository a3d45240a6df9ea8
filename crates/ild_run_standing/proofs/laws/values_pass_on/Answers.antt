use Rattle.ild_run_standing.proofs.Passing.{values_pass_on}
use Rattle.ild_run_standing.proofs.laws.values_pass_on.Goals as goal

pub returns : goal.returns
returns c = values_pass_on
