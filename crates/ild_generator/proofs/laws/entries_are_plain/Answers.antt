use Rattle.ild_generator.proofs.Steps.{entries_plain}
use Rattle.ild_generator.proofs.laws.entries_are_plain.Goals as goal

pub returns : goal.returns
returns c = entries_plain
