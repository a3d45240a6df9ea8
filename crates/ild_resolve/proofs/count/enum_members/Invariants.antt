use Rattle.std.proofs.Common.{ℕ, drop}
use Rattle.ild_resolve.specs.Events.{enum_member_events, each_events}
use Rattle.ild_resolve.proofs.Counting.{Ahead}
use Rattle.ild_resolve.proofs.count.enum_members.Given as goal

abbrev pub invariant-loop-i : goal.invariant-loop-i
invariant-loop-i l = (types : ℕ) → Ahead types (each_events enum_member_events 0 l.members) types (each_events enum_member_events l.i (drop l.i l.members))
