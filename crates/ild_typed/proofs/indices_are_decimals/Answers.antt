use Rattle.ild_typed.proofs.Index.{decimals}
use Rattle.ild_typed.proofs.indices_are_decimals.Goals as goal

pub returns : goal.returns
returns c = decimals
