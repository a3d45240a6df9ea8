use Rattle.ild_open_rows.proofs.Given.{entries_are_given as law}
use Rattle.ild_open_rows.proofs.laws.entries_are_given.Goals as goal

pub returns : goal.returns
returns c = law
