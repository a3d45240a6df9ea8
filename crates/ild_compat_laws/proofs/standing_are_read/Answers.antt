use Rattle.ild_compat_laws.proofs.Reading.{standing_read}
use Rattle.ild_compat_laws.proofs.standing_are_read.Goals as goal

pub returns : goal.returns
returns c = standing_read
