use Rattle.ild_named_type.proofs.Entering.{roots_typed}
use Rattle.ild_named_type.proofs.laws.roots_are_typed.Goals as goal

pub returns : goal.returns
returns c = roots_typed
