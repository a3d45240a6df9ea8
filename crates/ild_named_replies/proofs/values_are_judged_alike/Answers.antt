use Rattle.ild_named_replies.proofs.Judging.{judged_alike}
use Rattle.ild_named_replies.proofs.values_are_judged_alike.Goals as goal

pub returns : goal.returns
returns c = judged_alike
