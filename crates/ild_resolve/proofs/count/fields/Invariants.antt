use Rattle.std.proofs.Common.{drop}
use Rattle.ild_resolve.specs.Events.{field_events, each_events}
use Rattle.ild_resolve.proofs.Counting.{Ahead}
use Rattle.ild_resolve.proofs.count.fields.Given as goal

abbrev pub invariant-loop-i : goal.invariant-loop-i
invariant-loop-i l = Ahead l.initial.types (each_events field_events 0 l.fields) l.types (each_events field_events l.i (drop l.i l.fields))
