use Rattle.ild_named_replies.proofs.Editing.{line_changes}
use Rattle.ild_named_replies.proofs.line_changes_are_alike.Goals as goal

pub returns : goal.returns
returns c = line_changes
