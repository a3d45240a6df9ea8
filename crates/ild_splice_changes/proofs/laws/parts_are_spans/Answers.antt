use Rattle.ild_splice_changes.proofs.Spans.{parts_are_spans_lem, changes_are_spans_lem}
use Rattle.ild_splice_changes.proofs.laws.parts_are_spans.Goals as goal

pub returns : goal.returns
returns c = record { part = parts_are_spans_lem; change = changes_are_spans_lem }
