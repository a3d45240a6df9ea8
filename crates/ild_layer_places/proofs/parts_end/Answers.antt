use Rattle.ild_layer_places.proofs.Ending.{parts_end}
use Rattle.ild_layer_places.proofs.parts_end.Goals as goal

pub returns : goal.returns
returns c = parts_end
