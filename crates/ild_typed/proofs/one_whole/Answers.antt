use Rattle.ild_schema.proofs.Legibly.{legible}
use Rattle.ild_typed.proofs.Wholes.{whole_law}
use Rattle.ild_typed.proofs.one_whole.Goals as goal

pub returns : goal.returns
returns c = λ h block rows schema. whole_law h block rows (legible rows schema.accepted).clear
