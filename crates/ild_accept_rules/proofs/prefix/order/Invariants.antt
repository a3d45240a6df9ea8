use Rattle.std.proofs.Common.{◌≡◌, length}
use Rattle.ild_accept_rules.specs.inside.Ordered.{prefix_cmp}
use Rattle.ild_accept_rules.proofs.prefix.order.Given as goal

abbrev pub invariant-loop-rest : goal.invariant-loop-rest
invariant-loop-rest l = prefix_cmp l.rest l.other ≡ prefix_cmp l.a l.b

abbrev pub decreases-loop-rest : goal.decreases-loop-rest
decreases-loop-rest l = length l.rest
