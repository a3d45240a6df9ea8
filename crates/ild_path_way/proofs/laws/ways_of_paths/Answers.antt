use Rattle.ild_path_way.proofs.Splitting.{nodes_split, none_in_one_block}
use Rattle.ild_path_way.proofs.Staying.{blocks_stay, edits_stay}
use Rattle.ild_path_way.proofs.laws.ways_of_paths.Goals as goal

pub returns : goal.returns
returns c = record { split = nodes_split; none = none_in_one_block; parts = blocks_stay; edits = edits_stay }
