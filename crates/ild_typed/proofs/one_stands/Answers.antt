use Rattle.ild_typed.proofs.TreeKept.{one_stands as one_value}
use Rattle.ild_typed.proofs.one_stands.Goals as goal

pub returns : goal.returns
returns c = one_value
