use Rattle.ild_splice_changes.proofs.Spans.{parts_are_numbered, changes_are_spliced}
use Rattle.ild_splice_changes.proofs.laws.changes_are_spliced.Goals as goal

pub returns : goal.returns
returns c = record { numbered = parts_are_numbered; spliced = changes_are_spliced }
