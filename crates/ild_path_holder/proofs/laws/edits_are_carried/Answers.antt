use Rattle.ild_path_holder.proofs.Edits.{edits_are_carried}
use Rattle.ild_path_holder.proofs.laws.edits_are_carried.Goals as goal

pub returns : goal.returns
returns c = edits_are_carried
