use Rattle.ild_path_changes.proofs.Pairs.{one_pair}
use Rattle.ild_path_changes.proofs.laws.one_pair_is_one_change.Goals as goal

pub returns : goal.returns
returns c = one_pair
