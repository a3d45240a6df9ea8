use Rattle.ild_run_standing.proofs.Still.{still_replies}
use Rattle.ild_run_standing.proofs.laws.still_replies.Goals as goal

pub returns : goal.returns
returns c = still_replies
