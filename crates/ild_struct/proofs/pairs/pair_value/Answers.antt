use Rattle.ild_layer_fields.proofs.Pairing.{seek_found, seek_on, seek_end}
use Rattle.ild_struct.proofs.pairs.pair_value.Goals as goal

pub returns-in-Some-value_in : goal.returns-in-Some-value_in
returns-in-Some-value_in c = λ es h.
    seek_found c.args.key.now es c.loop-item.left c.next.new.self c.in-Some.item (c.loop-item.invariant es h) c.in-Some.ensures.steps c.in-Some-value_in.value c.in-Some-value_in.ensures

pub loop-item-preserved : goal.loop-item-preserved
loop-item-preserved c = λ es h.
    seek_on c.args.key.now es c.loop-item.left c.next.new.self c.in-Some.item (c.loop-item.invariant es h) c.in-Some.ensures.steps c.in_default-value_in.ensures

pub returns : goal.returns
returns c = λ es h. seek_end c.args.key.now es c.loop-item.left c.next.new.self (c.loop-item.invariant es h) c.in_default.ensures.steps
