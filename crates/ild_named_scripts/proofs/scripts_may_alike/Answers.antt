use Rattle.ild_named_scripts.proofs.Maying.{may_alike}
use Rattle.ild_named_scripts.proofs.scripts_may_alike.Goals as goal

pub returns : goal.returns
returns c = may_alike
