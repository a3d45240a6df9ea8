use Rattle.ild_named_law.proofs.Entered.{paths_lead}
use Rattle.ild_named_law.proofs.paths_lead_alike.Goals as goal

pub returns : goal.returns
returns c = paths_lead
