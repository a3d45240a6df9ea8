use Rattle.ild_path_around.proofs.Slots.{slots_behind, slots_of_fronts}
use Rattle.ild_path_around.proofs.laws.slots_are_told.Goals as goal

pub returns : goal.returns
returns c = record { behind = slots_behind; fronts = slots_of_fronts }
