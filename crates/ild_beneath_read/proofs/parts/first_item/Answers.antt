use Rattle.std.proofs.Common.{refl}
use Rattle.ild_beneath_read.proofs.Splitting.{items_over, split_item}
use Rattle.ild_open_held.specs.Splits.{element_parts}
use Rattle.ild_beneath_read.proofs.parts.first_item.Goals as goal

pub returns-in_default-clause-step : goal.returns-in_default-clause-step
returns-in_default-clause-step c = λ ps h. items_over (element_parts c.args.slot) c.args.items c.next.new.self ps h refl c.in_default.ensures.steps

pub returns-clause-step : goal.returns-clause-step
returns-clause-step c = λ ps h. split_item c.args.slot c.args.items c.next.new.self c.in-Some.node ps c.in-Some.ensures.steps h
