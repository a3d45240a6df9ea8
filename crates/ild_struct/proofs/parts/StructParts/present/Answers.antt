use Rattle.ild_struct.proofs.parts.StructParts.present.Goals as goal

pub returns : goal.returns
returns c = λ rows ty t os h.
    let s = c.all.ensures rows ty t os h in
    record { parts = s.parts; left = record { within = s.written.within; left = s.leaves }; present = s.written.present }
