use Rattle.std.proofs.Common.{length, refl, []}
use Rattle.ild_layer_fields.proofs.Pairing.{pairing_on, pairing_odd, pairing_end}
use Rattle.ild_layer_fields.proofs.survey.note_pairs.Goals as goal

pub loop-item-init : goal.loop-item-init
loop-item-init c = λ apart ds h.
    let fs = c.args.fields.now in
    record {
      done = [];
      rest = ds;
      is = refl;
      left = h;
      fine = refl;
      counted = refl;
      noted = record { names = c.new-notes.ensures.noted (length fs.def.now.fields) fs.most; needless = c.new-notes.ensures.needless };
    }

pub returns-in-Odd : goal.returns-in-Odd
returns-in-Odd c = λ apart ds h.
    pairing_odd c.args.fields.now.def.now.fields ds c.loop-item.left c.next.new.self c.loop-item.notes c.loop-item.miscounted (c.loop-item.invariant apart ds h) c.in-Some.item
    c.of-pair.result c.in-Some.ensures.steps c.of-pair.ensures c.in-Odd.is

pub loop-item-preserved : goal.loop-item-preserved
loop-item-preserved c = λ apart ds h.
    pairing_on c.args.fields.now.def.now.fields ds c.loop-item.left c.next.new.self c.loop-item.notes c.loop-item.miscounted (c.loop-item.invariant apart ds h) c.in-Some.item
    c.note_pair.new.self c.of-pair.result c.note_pair.result c.in-Some.ensures.steps c.of-pair.ensures c.in_default-pair.not-Odd (c.note_pair.ensures apart)

pub returns : goal.returns
returns c = λ apart ds h.
    pairing_end c.args.fields.now.def.now.fields ds c.loop-item.left c.next.new.self c.loop-item.notes c.loop-item.miscounted (c.loop-item.invariant apart ds h) c.in_default.ensures.steps
