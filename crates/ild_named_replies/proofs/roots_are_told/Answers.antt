use Rattle.ild_named_replies.proofs.Telling.{roots_told}
use Rattle.ild_named_replies.proofs.roots_are_told.Goals as goal

pub returns : goal.returns
returns c = roots_told
