use Rattle.ild_layer_places.proofs.Inlining.{parts_are_onto}
use Rattle.ild_layer_places.proofs.parts_are_onto.Goals as goal

pub returns : goal.returns
returns c = parts_are_onto
