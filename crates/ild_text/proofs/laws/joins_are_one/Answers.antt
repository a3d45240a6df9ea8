use Rattle.ild_text.proofs.Apart.{one_join_lem, joins_apart}
use Rattle.ild_text.proofs.ByCount.{joins_by_count}
use Rattle.ild_text.proofs.laws.joins_are_one.Goals as goal

pub returns-clause-one : goal.returns-clause-one
returns-clause-one c = one_join_lem

pub returns-clause-apart : goal.returns-clause-apart
returns-clause-apart c = joins_apart

pub returns-clause-by_count : goal.returns-clause-by_count
returns-clause-by_count c = joins_by_count
