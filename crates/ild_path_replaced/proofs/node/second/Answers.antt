use Rattle.ild_path_replaced.proofs.Finding.{second_there}
use Rattle.ild_path_replaced.specs.There.{IsThere}
use Rattle.std.proofs.Common.{subst}
use Rattle.ild_path_replaced.proofs.node.second.Goals as goal

pub returns-in-Some : goal.returns-in-Some
returns-in-Some c = λ t q o there. second_there t q o c.in-Some.pair c.item.result (subst (λ p. IsThere t q o p) c.in-Some.is there) c.item.ensures
