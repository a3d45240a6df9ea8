use Rattle.ild_script_meaning.proofs.Leaving.{batches_owe}
use Rattle.ild_script_meaning.proofs.laws.edits_in_a_batch_are_owed.Goals as goal

pub returns : goal.returns
returns c = batches_owe
