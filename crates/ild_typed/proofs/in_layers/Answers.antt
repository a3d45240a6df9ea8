use Rattle.ild_typed.proofs.Layers.{layers_all}
use Rattle.ild_typed.proofs.in_layers.Goals as goal

pub returns : goal.returns
returns c = layers_all
