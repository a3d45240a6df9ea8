use Rattle.std.proofs.Common.{refl}
use Rattle.ild_splice.proofs.change.insert_item.Goals as goal

pub returns : goal.returns
returns c = λ e stands. c.with_item.ensures e e stands refl
