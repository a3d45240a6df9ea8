use Rattle.std.proofs.Common.{refl}
use Rattle.ild_struct.proofs.map.map_source.Goals as goal

pub returns-in-None-clause-told : goal.returns-in-None-clause-told
returns-in-None-clause-told c = λ yes. record { piece = c.args.piece; is = refl; entries = c.in-Some.entries; iterates = λ u stands. c.in-Some.ensures u stands; told = λ apart es h. c.note_entries-told.ensures.told yes apart es h }
