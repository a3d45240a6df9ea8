use Rattle.ild_splice_changes.proofs.Counts.{items_come_lem}
use Rattle.ild_splice_changes.proofs.laws.items_come.Goals as goal

pub returns : goal.returns
returns c = items_come_lem
