use Rattle.ild_resolve.proofs.Rising.{events_rise_lem}
use Rattle.ild_resolve.proofs.laws.events_rise.Goals as goal

pub returns : goal.returns
returns c = events_rise_lem
