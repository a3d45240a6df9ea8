use Rattle.ild_script.proofs.Texts.{commands_of_texts}
use Rattle.ild_script.proofs.laws.commands_are_of_texts.Goals as goal

pub returns : goal.returns
returns c = commands_of_texts
