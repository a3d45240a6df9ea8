use Rattle.std.proofs.Common.{◌≡◌, [], take, drop}
use Rattle.ild_schema.specs.Places.{first_beside}
use Rattle.ild_schema.specs.Rules.{is_kind_wrong}
use Rattle.ild_accept.proofs.beside.kinded_member.Given as goal

abbrev pub invariant-loop-i : goal.invariant-loop-i
invariant-loop-i l = first_beside (is_kind_wrong l.schema) (λ m. m.at) (take l.i l.members) (drop l.i l.members) ≡ first_beside (is_kind_wrong l.schema) (λ m. m.at) [] l.members
