use Rattle.std.proofs.Common.{length, set, sym, ◌∙◌}
use Rattle.std.proofs.lemmas.Bool.{leb-true}
use Rattle.ild_node.specs.NewSlots.{slot_seen}
use Rattle.ild_hamt_climb.proofs.Planning.{ok-bare, lifts-block}
use Rattle.ild_hamt_climb.proofs.Weights.{ok-lifts, lifts-link}
use Rattle.ild_hamt_climb.proofs.lifting.lift.Goals as goal

pub returns-then-is_few-clause-lifts : goal.returns-then-is_few-clause-lifts
returns-then-is_few-clause-lifts c = λ h left depth ss gs has lt order is.
    let le = leb-true (length gs) c.args.shape.bucket (sym (c.is_few.ensures h left depth ss gs has lt is) ∙ c.if-is_few.true) in
    ok-lifts c.gathered.result h c.args.shape _ depth gs c.args.plan.now.items le (c.gathered.ensures.same h left depth ss gs has lt order is le)

pub returns-clause-lifts : goal.returns-clause-lifts
returns-clause-lifts c = λ h left depth ss gs has lt order is.
    lifts-link h c.args.shape left depth (set ss c.args.i (slot_seen c.args.slot)) gs c.of-block.result _ c.args.plan.now.items c.push.new.self.items (sym (c.is_few.ensures h left depth ss gs has lt is) ∙ c.if-is_few.false)
    is (c.of-block.ensures ∙ (c.in_ok-exchanged.ensures ss has lt).spelled) c.id-id.ensures c.in_ok-push.ensures.items

pub returns-then-is_few-clause-over : goal.returns-then-is_few-clause-over
returns-then-is_few-clause-over c = λ ss has lt. ok-bare c.gathered.result ss (slot_seen c.args.slot) c.args.plan.now.items c.gathered.ensures.bare

pub returns-clause-over : goal.returns-clause-over
returns-clause-over c = λ ss has lt.
    lifts-block ss c.args.i (slot_seen c.args.slot) c.of-block.result _ c.args.plan.now.items c.push.new.self.items (c.of-block.ensures ∙ (c.in_ok-exchanged.ensures ss has lt).spelled) c.id-id.ensures c.in_ok-push.ensures.items
