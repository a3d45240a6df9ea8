use Rattle.ild_script_meaning.proofs.Holding.{lines_keep_held}
use Rattle.ild_script_meaning.proofs.laws.lines_keep_values_that_can_be_held.Goals as goal

pub returns : goal.returns
returns c = lines_keep_held
