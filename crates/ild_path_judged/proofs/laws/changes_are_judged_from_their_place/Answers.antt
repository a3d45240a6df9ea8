use Rattle.ild_path_judged.proofs.Judging.{coming_is_judged, going_is_judged}
use Rattle.ild_path_judged.proofs.laws.changes_are_judged_from_their_place.Goals as goal

pub returns : goal.returns
returns c = record { coming = coming_is_judged; going = going_is_judged }
