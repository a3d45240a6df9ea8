use Rattle.ild_path_within.proofs.Splitting.{edits_split, faults_split, parts_are_set, parts_of_parts}
use Rattle.ild_path_within.proofs.laws.edits_split.Goals as goal

pub returns : goal.returns
returns c = record { edits = edits_split; faults = faults_split; sets = parts_are_set; parts = parts_of_parts }
