use Rattle.ild_open_held.proofs.Plainly.{null_is_held as law}
use Rattle.ild_open_held.proofs.laws.null_is_held.Goals as goal

pub returns : goal.returns
returns c = law
