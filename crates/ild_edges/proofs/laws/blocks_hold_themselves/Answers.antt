use Rattle.ild_edges.proofs.Reading.{hold_themselves}
use Rattle.ild_edges.proofs.laws.blocks_hold_themselves.Goals as goal

pub returns : goal.returns
returns c = hold_themselves
