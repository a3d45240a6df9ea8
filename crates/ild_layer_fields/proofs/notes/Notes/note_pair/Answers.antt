use Rattle.std.proofs.Common.{subst}
use Rattle.ild_layer_fields.specs.Pairs.{IsPairOf}
use Rattle.ild_layer_fields.specs.declared.pair.Pair.{Pair}
use Rattle.ild_layer_fields.proofs.Pairing.{name_noted, entry_noted}
use Rattle.ild_layer_fields.proofs.notes.Notes.note_pair.Goals as goal

pub returns-in-Name : goal.returns-in-Name
returns-in-Name c = λ apart d h even ks es noted.
    name_noted c.args.fields.now.def.now.fields d ks es c.note_name.new.self c.in-Name.name (subst (λ (p : Pair). IsPairOf d p) c.in-Name.is h) (c.note_name.ensures apart ks es noted)

pub returns-in-Entry : goal.returns-in-Entry
returns-in-Entry c = λ apart d h even ks es noted.
    entry_noted c.args.fields.now.def.now.fields d ks es c.note_entry.new.self c.in-Entry.name c.in-Entry.value (subst (λ (p : Pair). IsPairOf d p) c.in-Entry.is h)
    (λ v stands. c.note_entry.ensures apart c.args.fields.now.acc.now v stands ks es noted)
