use Rattle.ild_inclusion_held.proofs.Leading.{values_answer}
use Rattle.ild_inclusion_held.proofs.laws.values_answer.Goals as goal

pub returns : goal.returns
returns c = values_answer
