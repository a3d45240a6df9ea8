use Rattle.ild_path_steps.proofs.Pairing.{begins, ends, found, goes_on}
use Rattle.ild_path_steps.proofs.pair.key_seat.Goals as goal

pub loop-item-init : goal.loop-item-init
loop-item-init c = λ es h. begins c.args.key.now es c.args.items h

pub returns-then-is_keyed : goal.returns-then-is_keyed
returns-then-is_keyed c = λ es h.
    found c.args.key.now es c.loop-item.place c.loop-item.left c.next.new.self c.in-Some.item _ (c.loop-item.invariant es h) c.in-Some.ensures.steps c.is_keyed.ensures c.if-is_keyed.true

pub loop-item-preserved : goal.loop-item-preserved
loop-item-preserved c = λ es h.
    goes_on c.args.key.now es c.loop-item.place c.loop-item.left c.next.new.self c.in-Some.item _ (c.loop-item.invariant es h) c.in-Some.ensures.steps c.is_keyed.ensures c.if-is_keyed.false _ c.saturating_add-place.ensures

pub returns : goal.returns
returns c = λ es h. ends c.args.key.now es c.loop-item.place c.loop-item.left c.next.new.self (c.loop-item.invariant es h) c.in_default.ensures.steps
