use Rattle.ild_beneath.proofs.Again.{data_again}
use Rattle.ild_beneath.proofs.data_are_read.Goals as goal

pub returns : goal.returns
returns c = data_again
