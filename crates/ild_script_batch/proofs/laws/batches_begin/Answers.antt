use Rattle.ild_script_batch.proofs.Stages.{batches_begin}
use Rattle.ild_script_batch.proofs.laws.batches_begin.Goals as goal

pub returns : goal.returns
returns c = batches_begin
