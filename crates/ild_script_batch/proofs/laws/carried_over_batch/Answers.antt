use Rattle.ild_script_batch.proofs.Carrying.{carried_over_batch}
use Rattle.ild_script_batch.proofs.laws.carried_over_batch.Goals as goal

pub returns : goal.returns
returns c = carried_over_batch
