use Rattle.std.proofs.Common.{sym, ◌∙◌, refl, arith}
use Rattle.ild_node_slots.proofs.InSlot.{step-off, step-on, step-missing}
use Rattle.ild_node_slots.proofs.walk.SlotsIterator.next.Goals as goal

pub returns-then-not-map_bit-clause-steps : goal.returns-then-not-map_bit-clause-steps
returns-then-not-map_bit-clause-steps c = λ p v slots i has at.
    step-off p v slots i c.args.self.now _ has at (omega arith) (sym c.map_bit.ensures ∙ c.if-not-map_bit.true) refl refl refl refl

pub returns-in-Some-clause-steps : goal.returns-in-Some-clause-steps
returns-in-Some-clause-steps c = λ p v slots i has at.
    step-on p v slots i c.args.self.now _ c.in-Some.element c.slot_in.result has at (omega arith) (sym c.map_bit.ensures ∙ c.if-not-map_bit.false) refl refl refl c.in-Some.ensures.steps c.slot_in.ensures

pub returns-in-None-clause-steps : goal.returns-in-None-clause-steps
returns-in-None-clause-steps c = λ p v slots i has at.
    absurd (step-missing p v slots i c.args.self.now _ has at (sym c.map_bit.ensures ∙ c.if-not-map_bit.false) c.in-None.ensures.steps)
