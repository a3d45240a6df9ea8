use Rattle.ild_run_create.proofs.Outcomes.{one_made, made_unrefused, one_first}
use Rattle.ild_run_create.proofs.laws.one_outcome.Goals as goal

pub returns : goal.returns
returns c = record { made = one_made; unrefused = made_unrefused; first = one_first }
