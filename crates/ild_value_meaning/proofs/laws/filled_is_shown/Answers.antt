use Rattle.ild_value_meaning.proofs.Filling.{filled_is_shown}
use Rattle.ild_value_meaning.proofs.laws.filled_is_shown.Goals as goal

pub returns : goal.returns
returns c = filled_is_shown
