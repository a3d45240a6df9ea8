use Rattle.ild_named_law.proofs.Entered.{changes_alike}
use Rattle.ild_named_law.proofs.changes_are_alike.Goals as goal

pub returns : goal.returns
returns c = changes_alike
