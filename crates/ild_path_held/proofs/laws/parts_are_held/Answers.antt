use Rattle.ild_path_held.proofs.Holding.{held_parts, held_stays, held_wholes, held_edits}
use Rattle.ild_path_held.proofs.laws.parts_are_held.Goals as goal

pub returns : goal.returns
returns c = record { parts = held_parts; stays = held_stays; wholes = held_wholes; edits = held_edits }
