use Rattle.ild_named_scripts.proofs.Scripting.{scripts_alike}
use Rattle.ild_named_scripts.proofs.scripts_are_answered_alike.Goals as goal

pub returns : goal.returns
returns c = scripts_alike
