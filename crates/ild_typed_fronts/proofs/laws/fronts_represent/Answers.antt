use Rattle.ild_typed_fronts.proofs.Representing.{fronts_represent, fronts_are_fronts, fronts_are_one}
use Rattle.ild_typed_fronts.proofs.laws.fronts_represent.Goals as goal

pub returns : goal.returns
returns c = record { same = fronts_represent; fits = fronts_are_fronts; one = fronts_are_one }
