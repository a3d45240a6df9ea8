use Rattle.ild_script_batch.proofs.Beneath.{later_beneath}
use Rattle.ild_script_batch.proofs.laws.later_beneath.Goals as goal

pub returns : goal.returns
returns c = later_beneath
