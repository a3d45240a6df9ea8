use Rattle.ild_typed_alike.proofs.Paths.{as_many}
use Rattle.ild_typed_alike.proofs.alike_meet_as_many.Goals as goal

pub returns : goal.returns
returns c = as_many
