use Rattle.ild_named_replies.proofs.Editing.{edits_alike}
use Rattle.ild_named_replies.proofs.edits_are_alike.Goals as goal

pub returns : goal.returns
returns c = edits_alike
