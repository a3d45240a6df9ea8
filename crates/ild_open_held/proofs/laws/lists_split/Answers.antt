use Rattle.ild_open_held.proofs.Splitting.{lists_split as law}
use Rattle.ild_open_held.proofs.laws.lists_split.Goals as goal

pub returns : goal.returns
returns c = law
