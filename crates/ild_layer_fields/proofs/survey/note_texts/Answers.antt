use Rattle.std.proofs.Common.{length, refl, []}
use Rattle.ild_data.specs.Data as T
use Rattle.ild_text.specs.Parts.{pairs_in}
use Rattle.ild_layer_fields.proofs.Texting.{splitting_on}
use Rattle.ild_layer_fields.proofs.survey.note_texts.Goals as goal

pub loop-name-init : goal.loop-name-init
loop-name-init c = λ apart.
    let fs = c.args.fields.now in
    record { done = []; is = refl; noted = record { names = c.new-notes.ensures.noted (length fs.def.now.fields) fs.most; needless = c.new-notes.ensures.needless } }

pub loop-name-preserved : goal.loop-name-preserved
loop-name-preserved c = λ apart.
    splitting_on c.args.fields.now.def.now.fields (pairs_in c.args.split) (pairs_in c.loop-name.left) (pairs_in c.in-Some.behind) c.loop-name.notes (c.loop-name.invariant apart)
    c.note_entry.new.self c.in-Some.name.now c.in-Some.value.now c.in-Some.ensures (c.note_entry.ensures apart c.args.fields.now.acc.now (T.text c.in-Some.value.now) refl)
