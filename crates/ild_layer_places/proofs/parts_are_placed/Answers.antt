use Rattle.ild_layer_places.proofs.Composing.{part_placed}
use Rattle.ild_layer_places.proofs.parts_are_placed.Goals as goal

pub returns : goal.returns
returns c = λ rows y x t d at way k j outer inner leads here onto own. part_placed rows y x t d at way k j outer inner leads here onto own
