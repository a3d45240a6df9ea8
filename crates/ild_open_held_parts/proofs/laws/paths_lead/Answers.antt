use Rattle.ild_open_held_parts.proofs.Leading.{paths_lead}
use Rattle.ild_open_held_parts.proofs.laws.paths_lead.Goals as goal

pub returns : goal.returns
returns c = paths_lead
