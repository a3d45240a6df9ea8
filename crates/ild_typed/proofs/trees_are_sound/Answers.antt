use Rattle.ild_typed.proofs.Judging.{tree_sound}
use Rattle.ild_typed.proofs.trees_are_sound.Goals as goal

pub returns : goal.returns
returns c = tree_sound
