use Rattle.ild_typed_alike.proofs.Nodes.{as_long}
use Rattle.ild_typed_alike.proofs.alike_are_as_long.Goals as goal

pub returns : goal.returns
returns c = as_long
