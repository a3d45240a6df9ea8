use Rattle.ild_named_lines.proofs.Scripts.{scripts_of_lines}
use Rattle.ild_named_lines.proofs.laws.scripts_are_of_lines.Goals as goal

pub returns : goal.returns
returns c = scripts_of_lines
