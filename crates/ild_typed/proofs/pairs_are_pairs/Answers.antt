use Rattle.ild_typed.proofs.JoinLaws as L
use Rattle.ild_typed.proofs.pairs_are_pairs.Goals as goal

pub returns : goal.returns
returns c = L.pairs_are_pairs
