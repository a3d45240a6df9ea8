use Rattle.ild_splice_changes.proofs.Counts.{entries_come_lem}
use Rattle.ild_splice_changes.proofs.laws.entries_come.Goals as goal

pub returns : goal.returns
returns c = entries_come_lem
