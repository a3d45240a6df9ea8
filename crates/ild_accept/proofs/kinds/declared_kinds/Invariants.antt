use Rattle.std.proofs.Common.{◌≡◌, drop}
use Rattle.ild_schema.specs.Kinds.{declared_kinds, with_declared}
use Rattle.ild_accept.proofs.kinds.declared_kinds.Given as goal

abbrev pub invariant-loop-member : goal.invariant-loop-member
invariant-loop-member l = with_declared l.kinds (drop l.member-index l.members) ≡ declared_kinds l.members
