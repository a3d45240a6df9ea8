use Rattle.ild_open_held_parts.proofs.Parting.{parts_are_held}
use Rattle.ild_open_held_parts.proofs.laws.parts_are_held.Goals as goal

pub returns : goal.returns
returns c = parts_are_held
