use Rattle.std.proofs.Common.{ap, ◌||◌}
use Rattle.ild_layer_pairs.proofs.Meeting.{turned}
use Rattle.ild_layer_pairs.proofs.Judging.{judged_odd, judged_other, judged_pair, judging_begins}
use Rattle.ild_layer_pairs.proofs.judge.met_cause.Goals as goal

pub loop-item-init : goal.loop-item-init
loop-item-init c = λ ds has. judging_begins ds c.args.items c.new-seen.result has c.new-seen.ensures.empty

pub returns-in-Odd : goal.returns-in-Odd
returns-in-Odd c = λ ds has.
    judged_odd ds c.loop-item.left c.next.new.self c.loop-item.miscounted c.loop-item.repeated c.loop-item.seen (c.loop-item.invariant ds has) c.in-Some.item c.in-Some.ensures.steps
    (λ d st. c.in-Odd.ensures d st)

pub loop-item-preserved-in-Other : goal.loop-item-preserved-in-Other
loop-item-preserved-in-Other c = λ ds has.
    judged_other ds c.loop-item.left c.next.new.self c.loop-item.miscounted c.loop-item.repeated c.loop-item.seen (c.loop-item.invariant ds has) c.in-Some.item c.in-Some.ensures.steps
    (λ d st. c.in-Other.ensures d st)

pub loop-item-preserved : goal.loop-item-preserved
loop-item-preserved c = λ ds has.
    judged_pair ds c.loop-item.left c.next.new.self c.loop-item.miscounted c.loop-item.repeated c.loop-item.seen (c.loop-item.invariant ds has) c.in-Some.item c.in-Some.ensures.steps
    c.in-Pair.key.now _ c.is_new.new.seen (λ d st. let x = c.in-Pair.ensures d st in (x.0, x.1)) (ap (λ b. c.loop-item.repeated || b) (turned _ _ c.in_ok-repeated-in-Pair.ensures.known))
    c.in_ok-repeated-in-Pair.ensures.more
