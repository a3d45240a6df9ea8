use Rattle.ild_inclusion.specs.Branches.{so}
use Rattle.ild_inclusion.proofs.Mapping.{finds_map}
use Rattle.ild_inclusion.proofs.way.node_in.Goals as goal

pub returns-in-Ok : goal.returns-in-Ok
returns-in-Ok c = so (c.is_named.ensures.0 c.if-not-is_named.false) (finds_map _ _ _ _ _ (λ t stands. c.node_at.ensures t stands) (λ e. absurd cc) c.in-Ok.ensures)
