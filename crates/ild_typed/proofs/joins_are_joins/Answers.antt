use Rattle.ild_typed.proofs.JoinLaws as L
use Rattle.ild_typed.proofs.joins_are_joins.Goals as goal

pub returns : goal.returns
returns c = L.joins_are_joins
