use Rattle.ild_named_law.proofs.Rooting.{roots_structs}
use Rattle.ild_named_law.proofs.roots_are_structs.Goals as goal

pub returns : goal.returns
returns c = roots_structs
