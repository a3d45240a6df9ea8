use Rattle.ild_layer_piece.proofs.Told.{answers_one}
use Rattle.ild_layer_piece.proofs.laws.answers_are_one.Goals as goal

pub returns : goal.returns
returns c = answers_one c.accepted_are_legible.ensures c.layer_or_why.ensures c.layers_tell.ensures
