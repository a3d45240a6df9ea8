use Rattle.std.proofs.Common.{drop}
use Rattle.ild_resolve.specs.Events.{member_events, each_events}
use Rattle.ild_resolve.proofs.Counting.{Ahead}
use Rattle.ild_resolve.proofs.count.members.Given as goal

abbrev pub invariant-loop-i : goal.invariant-loop-i
invariant-loop-i l = Ahead l.initial.types (each_events member_events 0 l.members) l.types (each_events member_events l.i (drop l.i l.members))
