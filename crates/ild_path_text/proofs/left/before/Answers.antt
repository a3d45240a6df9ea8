use Rattle.ild_text.specs.Cut.{cut}
use Rattle.ild_text.proofs.Cuts.{cut_some}
use Rattle.ild_path_text.proofs.Drafts.{before_some}
use Rattle.ild_path_text.proofs.left.before.Goals as goal

pub returns-in-Some : goal.returns-in-Some
returns-in-Some c = λ d. rw c.in-Some.is (before_some d c.args.place (cut d c.in-Some.field-0.now) (cut_some d c.in-Some.field-0.now 0))
