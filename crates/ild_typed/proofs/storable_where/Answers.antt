use Rattle.ild_typed.proofs.MakingValues.{can_be_held}
use Rattle.ild_typed.proofs.storable_where.Goals as goal

pub returns : goal.returns
returns c = can_be_held
