use Rattle.std.proofs.Math.Logic.{∥∥₁_map}
use Rattle.ild_view.proofs.Iterating.{element_front, elements_behind}
use Rattle.ild_view.proofs.elements.ViewItems.first.Goals as goal

pub invariant_of-view-clause-stands : goal.invariant_of-view-clause-stands
invariant_of-view-clause-stands c = ∥∥₁_map c.args.self.now.stands (λ h.
    element_front c.args.self.now.acc.now c.args.self.now.slot c.args.self.now.items c.next.new.self c.in-Some.item c.in-Some.ensures.steps h)

pub returns-in-Some-clause-some : goal.returns-in-Some-clause-some
returns-in-Some-clause-some c = ∥∥₁_map c.args.self.now.stands (λ h.
    elements_behind c.args.self.now.acc.now c.args.self.now.slot c.args.self.now.items c.next.new.self c.in-Some.item c.in-Some.ensures.steps h)
