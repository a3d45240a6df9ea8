use Rattle.std.proofs.Math.Logic.{∥∥₁_map}
use Rattle.ild_view.proofs.view.View.check.Goals as goal

pub invariant_of-result-clause-stands : goal.invariant_of-result-clause-stands
invariant_of-result-clause-stands c = ∥∥₁_map c.args.node.stands (λ h.
    let x = c.in-Ok.ensures.checks h.of h.spells in
    record { value = x.0; room = c.args.room; tree = h.of; stands = h.spells; front = record { fits = x.1; tree = x.2 } })
