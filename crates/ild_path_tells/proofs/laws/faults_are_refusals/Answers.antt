use Rattle.ild_path_tells.proofs.Refusals.{faults_are_refusals}
use Rattle.ild_path_tells.proofs.laws.faults_are_refusals.Goals as goal

pub returns : goal.returns
returns c = faults_are_refusals
