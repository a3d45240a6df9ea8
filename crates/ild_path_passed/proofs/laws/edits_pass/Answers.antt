use Rattle.ild_path_passed.proofs.Passing.{edits_are_passed}
use Rattle.ild_path_passed.proofs.laws.edits_pass.Goals as goal

pub returns : goal.returns
returns c = edits_are_passed
