use Rattle.ild_layer_fields.proofs.Causing.{lacks_one, lacks_none_more, lacks_none}
use Rattle.ild_layer_fields.proofs.notes.Notes.lacks.Goals as goal

pub loop-i-preserved : goal.loop-i-preserved
loop-i-preserved c = λ apart ks es h.
    lacks_none_more c.args.fields.now c.loop-i.i c.index-fields-i.result c.loop-i-test.true c.index-fields-i.is c.misses.result c.args.self.now c.misses.ensures apart ks es h
    c.if-misses.false (c.loop-i.invariant apart ks es h)

pub returns-then-misses : goal.returns-then-misses
returns-then-misses c = λ apart ks es h.
    lacks_one c.args.fields.now c.loop-i.i c.index-fields-i.result c.loop-i-test.true c.index-fields-i.is c.misses.result c.args.self.now c.misses.ensures apart ks es h
    c.if-misses.true

pub returns : goal.returns
returns c = λ apart ks es h. lacks_none c.args.fields.now c.loop-i.i ks c.loop-i-test.false (c.loop-i.invariant apart ks es h)
