use Rattle.std.proofs.Common.{◌∙◌}
use Rattle.ild_layer_fields.proofs.Causing.{cause_noted}
use Rattle.ild_layer_fields.proofs.notes.Notes.first_cause.Goals as goal

pub returns : goal.returns
returns c = λ apart ks es h.
    c.first.ensures ∙ cause_noted c.args.fields.now ks es c.args.self.now c.lacks.result c.args.miscounted c.args.ordered h (c.lacks.ensures apart ks es h)
