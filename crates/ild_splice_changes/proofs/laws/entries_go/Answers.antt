use Rattle.ild_splice_changes.proofs.Counts.{entries_go_lem}
use Rattle.ild_splice_changes.proofs.laws.entries_go.Goals as goal

pub returns : goal.returns
returns c = entries_go_lem
