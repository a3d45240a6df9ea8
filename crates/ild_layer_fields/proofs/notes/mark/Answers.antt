use Rattle.std.proofs.Common.{arith}
use Rattle.ild_layer_fields.proofs.Marking.{marked_more}
use Rattle.ild_layer_fields.proofs.notes.mark.Goals as goal

pub returns : goal.returns
returns c = marked_more c.args.marks.now c.args.place (omega (arith, c.told-marks, c.requires))
