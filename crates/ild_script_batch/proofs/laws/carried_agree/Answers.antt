use Rattle.ild_script_batch.proofs.Commits.{carried_agree}
use Rattle.ild_script_batch.proofs.laws.carried_agree.Goals as goal

pub returns : goal.returns
returns c = carried_agree
