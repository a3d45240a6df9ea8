use Rattle.ild_named_law.proofs.Entered.{holders_alike}
use Rattle.ild_named_law.proofs.holders_are_alike.Goals as goal

pub returns : goal.returns
returns c = holders_alike
