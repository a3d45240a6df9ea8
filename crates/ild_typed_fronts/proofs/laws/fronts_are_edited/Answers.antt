use Rattle.ild_typed_fronts.proofs.Pathing.{wholes_of_fronts, edits_of_fronts}
use Rattle.ild_typed_fronts.proofs.laws.fronts_are_edited.Goals as goal

pub returns : goal.returns
returns c = record { wholes = wholes_of_fronts; edits = edits_of_fronts }
