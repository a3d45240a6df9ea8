use Rattle.ild_data_alike.proofs.Lengths.{as_long}
use Rattle.ild_data_alike.proofs.alike_are_as_long.Goals as goal

pub returns : goal.returns
returns c = as_long
