use Rattle.std.proofs.Common.{refl}
use Rattle.ild_beneath_read.proofs.Splitting.{items_over, pass_pair, split_pair}
use Rattle.ild_open_held.specs.Splits.{entry_parts}
use Rattle.ild_typed.specs.Named.{pair_entries}
use Rattle.ild_beneath_read.proofs.parts.first_pair.Goals as goal

pub returns-in_default-clause-step : goal.returns-in_default-clause-step
returns-in_default-clause-step c = λ ps h. items_over (λ ds. entry_parts c.args.slot (pair_entries ds)) c.args.items c.next.new.self ps h refl c.in_default.ensures.steps

pub returns-in-Some-named-clause-step : goal.returns-in-Some-named-clause-step
returns-in-Some-named-clause-step c = λ ps h. split_pair c.args.slot c.args.items c.next.new.self c.in-Some.item ps c.in-Some.ensures.steps _ c.in-Some-named.node c.in-Some-named.ensures h

pub returns-in-None-clause-step : goal.returns-in-None-clause-step
returns-in-None-clause-step c = λ ps h. pass_pair c.args.slot c.args.items c.next.new.self c.in-Some.item ps c.in-Some.ensures.steps c.in-None.ensures h
