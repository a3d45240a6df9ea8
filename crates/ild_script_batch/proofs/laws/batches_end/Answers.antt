use Rattle.ild_script_batch.proofs.Stages.{batches_end}
use Rattle.ild_script_batch.proofs.laws.batches_end.Goals as goal

pub returns : goal.returns
returns c = batches_end
