use Rattle.ild_beneath_read.proofs.Splitting.{entries_over, split_entry}
use Rattle.ild_beneath_read.proofs.parts.first_entry.Goals as goal

pub returns-in_default-clause-step : goal.returns-in_default-clause-step
returns-in_default-clause-step c = λ ps h. entries_over c.args.slot c.args.entries c.next.new.self ps h c.in_default.ensures.steps

pub returns-clause-step : goal.returns-clause-step
returns-clause-step c = λ ps h. split_entry c.args.slot c.args.entries c.next.new.self ps h (_, c.in-Some.node) c.in-Some.ensures.steps
