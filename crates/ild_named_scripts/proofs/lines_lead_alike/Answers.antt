use Rattle.ild_named_scripts.proofs.Leading.{leads_alike}
use Rattle.ild_named_scripts.proofs.lines_lead_alike.Goals as goal

pub returns : goal.returns
returns c = leads_alike
