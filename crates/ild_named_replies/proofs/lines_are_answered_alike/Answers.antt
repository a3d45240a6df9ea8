use Rattle.ild_named_replies.proofs.Answering.{lines_alike}
use Rattle.ild_named_replies.proofs.lines_are_answered_alike.Goals as goal

pub returns : goal.returns
returns c = lines_alike
