use Rattle.ild_typed.proofs.NodeRoots.{roots_told}
use Rattle.ild_typed.proofs.roots_are_told.Goals as goal

pub returns : goal.returns
returns c = roots_told
