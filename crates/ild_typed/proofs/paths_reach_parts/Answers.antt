use Rattle.ild_typed.proofs.Reaching.{reaches_parts}
use Rattle.ild_typed.proofs.paths_reach_parts.Goals as goal

pub returns : goal.returns
returns c = reaches_parts
