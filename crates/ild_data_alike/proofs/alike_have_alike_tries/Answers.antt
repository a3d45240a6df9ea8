use Rattle.ild_data_alike.proofs.Tries.{tries_alike}
use Rattle.ild_data_alike.proofs.alike_have_alike_tries.Goals as goal

pub returns : goal.returns
returns c = tries_alike
