use Rattle.ild_splice_changes.proofs.Counts.{items_go_lem}
use Rattle.ild_splice_changes.proofs.laws.items_go.Goals as goal

pub returns : goal.returns
returns c = items_go_lem
