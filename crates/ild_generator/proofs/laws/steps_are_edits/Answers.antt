use Rattle.ild_generator.proofs.Steps.{steps_edit}
use Rattle.ild_generator.proofs.laws.steps_are_edits.Goals as goal

pub returns : goal.returns
returns c = steps_edit
