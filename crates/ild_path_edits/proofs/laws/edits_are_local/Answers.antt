use Rattle.ild_path_edits.proofs.Elsewhere.{others_stay}
use Rattle.ild_path_edits.proofs.KeepTyped.{set_stands, elsewhere_stays}
use Rattle.ild_path_edits.proofs.laws.edits_are_local.Goals as goal

pub returns : goal.returns
returns c = record { there = set_stands; replaced = elsewhere_stays; keyed = others_stay }
