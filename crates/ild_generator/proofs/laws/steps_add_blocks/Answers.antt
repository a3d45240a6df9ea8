use Rattle.ild_generator.proofs.Coming.{steps_add}
use Rattle.ild_generator.proofs.laws.steps_add_blocks.Goals as goal

pub returns : goal.returns
returns c = steps_add
