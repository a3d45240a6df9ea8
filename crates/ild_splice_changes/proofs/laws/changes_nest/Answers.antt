use Rattle.ild_splice_changes.proofs.Nesting.{changes_nest_lem}
use Rattle.ild_splice_changes.proofs.laws.changes_nest.Goals as goal

pub returns : goal.returns
returns c = changes_nest_lem
