use Rattle.ild_run_standing.proofs.Held.{standing_are_at}
use Rattle.ild_run_standing.proofs.laws.standing_are_at.Goals as goal

pub returns : goal.returns
returns c = standing_are_at c.places_are_held.ensures
