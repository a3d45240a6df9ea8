use Rattle.ild_path_within.proofs.Splitting.{paths_split, ways_split}
use Rattle.ild_path_within.proofs.laws.paths_split.Goals as goal

pub returns : goal.returns
returns c = record { leads = paths_split; counts = ways_split }
