use Rattle.ild_layer_fields.proofs.Noting.{noted_stranger, noted_field}
use Rattle.ild_layer_fields.proofs.notes.Notes.note.Goals as goal

pub returns-then-place-count-clause-noted : goal.returns-then-place-count-clause-noted
returns-then-place-count-clause-noted c = λ ns h. noted_stranger c.args.count c.args.place c.args.self.now c.rise.new.self c.rise.ensures ns h c.if-place-count.true

pub returns-else-place-count-clause-noted : goal.returns-else-place-count-clause-noted
returns-else-place-count-clause-noted c = λ ns h.
    noted_field c.args.count c.args.place c.args.self.now c.rise.new.self c.rise.ensures ns h c.meet.new.self c.meet.ensures.twice c.meet.ensures.met c.if-place-count.false c.requires.within
