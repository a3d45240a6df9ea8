use Rattle.ild_named_replies.proofs.Meaning.{keys_alike}
use Rattle.ild_named_replies.proofs.keys_are_tested_alike.Goals as goal

pub returns : goal.returns
returns c = keys_alike
