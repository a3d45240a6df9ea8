use Rattle.ild_typed.proofs.RefusalsReached.{refusals_are_reached}
use Rattle.ild_typed.proofs.refusals_are_reached.Goals as goal

pub returns : goal.returns
returns c = refusals_are_reached
