use Rattle.ild_schema.proofs.Legibly.{legible}
use Rattle.ild_typed.specs.Hamt.{alone}
use Rattle.ild_typed.proofs.OneValue.{one_value, alone_exact}
use Rattle.ild_typed.proofs.one_front.Goals as goal

pub returns : goal.returns
returns c = λ rows schema s safe m n f g d p q. one_value alone alone_exact rows (legible rows schema.accepted).clear s safe f g d p.tree q.tree
