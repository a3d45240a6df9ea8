use Rattle.ild_named_replies.proofs.Meaning.{meant_alike}
use Rattle.ild_named_replies.proofs.data_mean_alike.Goals as goal

pub returns : goal.returns
returns c = meant_alike
