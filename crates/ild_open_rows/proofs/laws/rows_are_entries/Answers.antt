use Rattle.ild_open_rows.proofs.Rooting.{rows_are_entries as law}
use Rattle.ild_open_rows.proofs.laws.rows_are_entries.Goals as goal

pub returns : goal.returns
returns c = law
