use Rattle.ild_typed.proofs.Fronting.{values_fronts}
use Rattle.ild_typed.proofs.values_have_fronts.Goals as goal

pub returns : goal.returns
returns c = values_fronts
