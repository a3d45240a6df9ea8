use Rattle.ild_named_law.proofs.Entered.{values_set}
use Rattle.ild_named_law.proofs.values_are_set.Goals as goal

pub returns : goal.returns
returns c = values_set
