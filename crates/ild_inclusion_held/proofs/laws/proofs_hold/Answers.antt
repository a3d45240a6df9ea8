use Rattle.ild_inclusion_held.proofs.Leading.{proofs_hold}
use Rattle.ild_inclusion_held.proofs.laws.proofs_hold.Goals as goal

pub returns : goal.returns
returns c = proofs_hold
