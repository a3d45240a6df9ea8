use Rattle.std.proofs.Common.{◌∙◌}
use Rattle.ild_splice_changes.specs.TreeChange.{insert_entry}
use Rattle.ild_path_apply.proofs.Mapping.{entry_again, not_map}
use Rattle.ild_path_apply.proofs.Within.{of_splice}
use Rattle.ild_path_apply.proofs.inner.with_entry.Goals as goal

pub returns-in_default : goal.returns-in_default
returns-in_default c = λ x stands. not_map c.args.map.now c.args.key.now x c.same.result c.same.ensures (λ d here is. c.in_default.not-Map (c.kind.ensures d here ∙ is))

pub returns-in-Some : goal.returns-in-Some
returns-in-Some c = λ x stands. entry_again c.args.map.now c.in-Some.old c.args.key.now x c.replace.result c.in-Some.ensures (c.replace.ensures x stands)

pub returns-in-None : goal.returns-in-None
returns-in-None c = λ x stands. of_splice c.args.map.now (insert_entry c.args.key.now x) c.insert_entry.result (c.insert_entry.ensures x stands)
