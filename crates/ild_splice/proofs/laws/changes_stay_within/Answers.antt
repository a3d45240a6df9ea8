use Rattle.ild_splice.proofs.Staying.{changes_stay_within_lem}
use Rattle.ild_splice.proofs.laws.changes_stay_within.Goals as goal

pub returns : goal.returns
returns c = changes_stay_within_lem
