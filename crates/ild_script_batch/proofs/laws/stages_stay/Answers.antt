use Rattle.ild_script_batch.proofs.Stages.{stages_stay}
use Rattle.ild_script_batch.proofs.laws.stages_stay.Goals as goal

pub returns : goal.returns
returns c = stages_stay
