use Rattle.ild_node.proofs.Changing.{on-there}
use Rattle.ild_node.proofs.changed.is_on.Goals as goal

pub returns : goal.returns
returns c = λ p slots s has is lt. on-there slots c.args.i c.args.j s c.is_used.result c.if-j-i.false (c.is_used.ensures p slots has lt)
