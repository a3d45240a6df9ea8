use Rattle.ild_typed.proofs.WalkForms.{table_walk}
use Rattle.ild_typed.proofs.front_or_refused.Goals as goal

pub returns : goal.returns
returns c = table_walk
