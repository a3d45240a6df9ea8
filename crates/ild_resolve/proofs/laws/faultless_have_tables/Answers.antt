use Rattle.ild_resolve.proofs.Tables.{table}
use Rattle.ild_resolve.proofs.laws.faultless_have_tables.Goals as goal

pub returns : goal.returns
returns c = table
