use Rattle.ild_open_held.proofs.Splitting.{unions_split as law}
use Rattle.ild_open_held.proofs.laws.unions_split.Goals as goal

pub returns : goal.returns
returns c = law
