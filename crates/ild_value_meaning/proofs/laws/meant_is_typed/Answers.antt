use Rattle.ild_value_meaning.proofs.MeantTyped.{meant_is_typed}
use Rattle.ild_value_meaning.proofs.laws.meant_is_typed.Goals as goal

pub returns : goal.returns
returns c = meant_is_typed
