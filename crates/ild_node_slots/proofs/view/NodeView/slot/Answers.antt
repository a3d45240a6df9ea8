use Rattle.std.proofs.Common.{sym, ◌∙◌}
use Rattle.ild_node_slots.proofs.InSlot.{slot-off, slot-empty, slot-on, slot-missing}
use Rattle.ild_node_slots.proofs.view.NodeView.slot.Goals as goal

pub returns-then-not-map_bit : goal.returns-then-not-map_bit
returns-then-not-map_bit c = λ p slots h.
    slot-empty c.args.self.now slots c.args.i (slot-off p c.args.self.now slots c.args.i h.form.many h.map (sym c.map_bit.ensures ∙ c.if-not-map_bit.true))

pub returns-in-Some : goal.returns-in-Some
returns-in-Some c = λ p slots h.
    slot-on p c.args.self.now slots c.args.i c.ones_below.result c.in-Some.element c.slot_in.result h (sym c.map_bit.ensures ∙ c.if-not-map_bit.false) c.ones_below.ensures c.in-Some.ensures c.slot_in.ensures

pub returns-in-None : goal.returns-in-None
returns-in-None c = λ p slots h.
    absurd (slot-missing p c.args.self.now slots c.args.i c.ones_below.result h (sym c.map_bit.ensures ∙ c.if-not-map_bit.false) c.ones_below.ensures c.in-None.ensures)
