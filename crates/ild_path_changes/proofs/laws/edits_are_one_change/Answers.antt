use Rattle.ild_path_changes.proofs.ChangeOne.{changes_are_one_change}
use Rattle.ild_path_changes.proofs.EditOne.{edits_are_one_change}
use Rattle.ild_path_changes.proofs.SetOne.{set_is_one_change}
use Rattle.ild_path_changes.proofs.laws.edits_are_one_change.Goals as goal

pub returns : goal.returns
returns c = record { there = set_is_one_change; each = edits_are_one_change; changes = changes_are_one_change }
