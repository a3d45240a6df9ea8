use Rattle.ild_named_replies.proofs.Owing.{puts_alike}
use Rattle.ild_named_replies.proofs.lines_put_alike.Goals as goal

pub returns : goal.returns
returns c = puts_alike
