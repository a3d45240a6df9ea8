use Rattle.ild_script_batch.proofs.Inside.{answers_inside}
use Rattle.ild_script_batch.proofs.laws.answers_inside.Goals as goal

pub returns : goal.returns
returns c = answers_inside
