use Rattle.ild_path_holder.proofs.Editing.{changes_are_edited, edits_are_edited}
use Rattle.ild_path_holder.proofs.laws.edits_are_edited.Goals as goal

pub returns : goal.returns
returns c = record { each = edits_are_edited; changes = changes_are_edited }
