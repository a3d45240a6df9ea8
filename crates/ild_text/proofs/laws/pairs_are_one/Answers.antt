use Rattle.ild_text.proofs.Apart.{one_pairs_lem}
use Rattle.ild_text.proofs.ByCount.{pairs_by_keys}
use Rattle.ild_text.proofs.laws.pairs_are_one.Goals as goal

pub returns-clause-one : goal.returns-clause-one
returns-clause-one c = one_pairs_lem

pub returns-clause-by_keys : goal.returns-clause-by_keys
returns-clause-by_keys c = pairs_by_keys
