use Rattle.ild_layer_places.proofs.Ending.{fields_end}
use Rattle.ild_layer_places.proofs.fields_end.Goals as goal

pub returns : goal.returns
returns c = fields_end
