use Rattle.ild_path_holder.proofs.Seeing.{edits_are_seen}
use Rattle.ild_path_holder.proofs.laws.edits_are_seen.Goals as goal

pub returns : goal.returns
returns c = edits_are_seen
