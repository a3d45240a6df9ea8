use Rattle.ild_named_replies.proofs.Telling.{reads_alike}
use Rattle.ild_named_replies.proofs.reads_are_alike.Goals as goal

pub returns : goal.returns
returns c = reads_alike
