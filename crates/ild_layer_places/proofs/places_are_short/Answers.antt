use Rattle.ild_layer_places.proofs.Composing.{placed_short}
use Rattle.ild_layer_places.proofs.places_are_short.Goals as goal

pub returns : goal.returns
returns c = placed_short
