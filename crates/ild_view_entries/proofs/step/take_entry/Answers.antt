use Rattle.ild_view_entries.proofs.Stepping.{map_first, map_none}
use Rattle.ild_view_entries.proofs.step.take_entry.Goals as goal

pub returns-in-Some-clause-step : goal.returns-in-Some-clause-step
returns-in-Some-clause-step c = λ es h. map_first c.args.entries c.next.new.self c.in-Some.key c.in-Some.value c.in-Some.ensures.steps es h

pub returns-in-None-clause-step : goal.returns-in-None-clause-step
returns-in-None-clause-step c = λ es h. map_none c.args.entries c.next.new.self c.in-None.ensures.steps es h
