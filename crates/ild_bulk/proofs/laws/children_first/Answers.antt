use Rattle.std.proofs.Common.{[]}
use Rattle.ild_bulk.proofs.Childs.{plan-follows}
use Rattle.ild_bulk.proofs.laws.children_first.Goals as goal

pub returns : goal.returns
returns c = λ h p left depth es. plan-follows h p left depth es []
