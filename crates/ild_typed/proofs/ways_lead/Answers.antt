use Rattle.ild_typed.proofs.Leading.{ways_lead}
use Rattle.ild_typed.proofs.ways_lead.Goals as goal

pub returns : goal.returns
returns c = ways_lead
