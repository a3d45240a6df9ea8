use Rattle.ild_typed.proofs.CleanTypes.{layer_or_why}
use Rattle.ild_typed.proofs.layer_or_why.Goals as goal

pub returns : goal.returns
returns c = layer_or_why
