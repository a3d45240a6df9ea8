use Rattle.ild_path_around.proofs.Alike.{fronts_break_alike, sound_inside}
use Rattle.ild_path_around.proofs.Staying.{blocks_break_alike}
use Rattle.ild_path_around.proofs.TextEdits.{text_edits_of_fronts}
use Rattle.ild_path_around.proofs.laws.fronts_break_alike.Goals as goal

pub returns : goal.returns
returns c = record { alike = fronts_break_alike; inside = sound_inside; blocks = blocks_break_alike; texts = text_edits_of_fronts }
