use Rattle.ild_open_held.proofs.Hamts.{hamts_split as law}
use Rattle.ild_open_held.proofs.laws.hamts_split.Goals as goal

pub returns : goal.returns
returns c = law
