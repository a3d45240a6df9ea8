use Rattle.ild_splice_changes.proofs.Shapes.{one_key, one_item}
use Rattle.ild_splice_changes.proofs.laws.one_place_is_one_change.Goals as goal

pub returns : goal.returns
returns c = record { key = one_key; item = one_item }
