use Rattle.std.proofs.Common.{refl}
use Rattle.ild_beneath_read.proofs.Splitting.{items_over, pass_held, split_held}
use Rattle.ild_beneath_read.specs.inside.Left.{value_parts}
use Rattle.ild_beneath_read.proofs.parts.first_held.Goals as goal

pub returns-in_default-clause-step : goal.returns-in_default-clause-step
returns-in_default-clause-step c = λ ps h. items_over (value_parts c.args.slot) c.args.items c.next.new.self ps h refl c.in_default.ensures.steps

pub returns-in-Some-entry_value-clause-step : goal.returns-in-Some-entry_value-clause-step
returns-in-Some-entry_value-clause-step c = λ ps h.
    split_held c.args.slot c.args.items c.next.new.self c.in-Some.item ps c.in-Some.ensures.steps c.in-Some-entry_value.node c.in-Some-entry_value.ensures h

pub returns-in-None-clause-step : goal.returns-in-None-clause-step
returns-in-None-clause-step c = λ ps h. pass_held c.args.slot c.args.items c.next.new.self c.in-Some.item ps c.in-Some.ensures.steps c.in-None.ensures h
