use Rattle.ild_open_held.proofs.Splitting.{structs_split as law}
use Rattle.ild_open_held.proofs.laws.structs_split.Goals as goal

pub returns : goal.returns
returns c = law
