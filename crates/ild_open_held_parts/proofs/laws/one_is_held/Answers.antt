use Rattle.ild_open_held_parts.proofs.Holding.{one_is_held}
use Rattle.ild_open_held_parts.proofs.laws.one_is_held.Goals as goal

pub returns : goal.returns
returns c = one_is_held
