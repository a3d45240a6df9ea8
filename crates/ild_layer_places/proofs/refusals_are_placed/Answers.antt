use Rattle.ild_layer_places.proofs.Refusing.{refusals_are_placed}
use Rattle.ild_layer_places.proofs.refusals_are_placed.Goals as goal

pub returns : goal.returns
returns c = refusals_are_placed
