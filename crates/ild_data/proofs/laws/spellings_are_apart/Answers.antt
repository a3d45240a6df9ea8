use Rattle.ild_data.proofs.Apart.{one_spelling, one_meaning}
use Rattle.ild_data.proofs.laws.spellings_are_apart.Goals as goal

pub returns : goal.returns
returns c = record { prefix = one_spelling; injective = one_meaning }
