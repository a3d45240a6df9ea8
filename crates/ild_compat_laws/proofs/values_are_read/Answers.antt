use Rattle.ild_compat_laws.proofs.Reading.{values_read}
use Rattle.ild_compat_laws.proofs.values_are_read.Goals as goal

pub returns : goal.returns
returns c = values_read
