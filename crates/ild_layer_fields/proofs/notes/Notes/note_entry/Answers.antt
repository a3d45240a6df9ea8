use Rattle.ild_layer_fields.proofs.notes.Notes.note_entry.Goals as goal

pub returns : goal.returns
returns c = λ apart. c.note_placed.ensures apart c.args.name.now (c.place_left-place.ensures.place apart)
