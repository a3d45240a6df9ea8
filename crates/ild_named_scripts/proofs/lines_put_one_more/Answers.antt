use Rattle.ild_named_scripts.proofs.Putting.{puts_one_more}
use Rattle.ild_named_scripts.proofs.lines_put_one_more.Goals as goal

pub returns : goal.returns
returns c = puts_one_more
