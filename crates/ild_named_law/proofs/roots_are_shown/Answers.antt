use Rattle.ild_named_law.proofs.Entered.{roots_shown}
use Rattle.ild_named_law.proofs.roots_are_shown.Goals as goal

pub returns : goal.returns
returns c = roots_shown
