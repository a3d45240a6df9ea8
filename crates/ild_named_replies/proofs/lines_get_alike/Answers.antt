use Rattle.ild_named_replies.proofs.Costing.{gets_alike}
use Rattle.ild_named_replies.proofs.lines_get_alike.Goals as goal

pub returns : goal.returns
returns c = gets_alike
