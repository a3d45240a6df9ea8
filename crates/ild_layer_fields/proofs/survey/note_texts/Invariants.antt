use Rattle.std.proofs.Common.{length}
use Rattle.ild_schema.specs.Clear.{AreNamesApart}
use Rattle.ild_text.specs.Parts.{pairs_in}
use Rattle.ild_layer_fields.proofs.Texting.{Splitting}
use Rattle.ild_layer_fields.proofs.survey.note_texts.Given as goal

abbrev pub invariant-loop-name : goal.invariant-loop-name
invariant-loop-name l = AreNamesApart l.fields.def.now.fields → Splitting l.fields.def.now.fields (pairs_in l.split) (pairs_in l.left) l.notes

abbrev pub decreases-loop-name : goal.decreases-loop-name
decreases-loop-name l = length (pairs_in l.left)
