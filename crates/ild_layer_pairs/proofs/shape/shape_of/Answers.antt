use Rattle.ild_layer_fields.proofs.Pairing.{pair_alone, pair_whole, pair_long}
use Rattle.ild_layer_pairs.proofs.Judging.{empty_list}
use Rattle.ild_layer_pairs.proofs.shape.shape_of.Goals as goal

pub returns-in_default-next : goal.returns-in_default-next
returns-in_default-next c = λ d stands. empty_list c.args.item.now d c.in-Some.parts c.next.new.self (c.in-Some.ensures d stands) c.in_default-next.ensures.steps

pub returns-in_default-next-2 : goal.returns-in_default-next-2
returns-in_default-next-2 c = λ d stands.
    let x = pair_alone c.args.item.now d c.in-Some.parts c.next.new.self c.in-Some-next.first c.in-Some-text.name.now (c.in-Some.ensures d stands) c.in-Some-next.ensures.steps c.in-Some-text.ensures
    c.next-2.new.self c.in_default-next-2.ensures.steps in
    (x.0, x.1)

pub returns-in-Some-next-3 : goal.returns-in-Some-next-3
returns-in-Some-next-3 c = λ d stands.
    let x = pair_long c.args.item.now d c.in-Some.parts c.next.new.self c.in-Some-next.first c.in-Some-text.name.now (c.in-Some.ensures d stands) c.in-Some-next.ensures.steps c.in-Some-text.ensures
    c.in-Some-next-2.value c.next-2.new.self c.in-Some-next-2.ensures.steps c.in-Some-next-3.field-0 c.next-3.new.self c.in-Some-next-3.ensures.steps in
    (x.0, x.1)

pub returns-in-None : goal.returns-in-None
returns-in-None c = λ d stands.
    pair_whole c.args.item.now d c.in-Some.parts c.next.new.self c.in-Some-next.first c.in-Some-text.name.now (c.in-Some.ensures d stands) c.in-Some-next.ensures.steps c.in-Some-text.ensures
    c.in-Some-next-2.value c.next-2.new.self c.in-Some-next-2.ensures.steps c.next-3.new.self c.in-None.ensures.steps
