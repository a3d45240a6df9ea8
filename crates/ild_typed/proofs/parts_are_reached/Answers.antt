use Rattle.ild_typed.proofs.RefusalsReached.{parts_are_reached}
use Rattle.ild_typed.proofs.parts_are_reached.Goals as goal

pub returns : goal.returns
returns c = parts_are_reached
