use Rattle.ild_path_edits.proofs.Judges.{unrefused_are_storable, judged_in_order, edited_are_storable}
use Rattle.ild_path_edits.proofs.laws.judged_values_can_be_held.Goals as goal

pub returns : goal.returns
returns c = record { held = unrefused_are_storable; first = judged_in_order; edits = edited_are_storable }
