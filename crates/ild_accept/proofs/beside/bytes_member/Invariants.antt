use Rattle.std.proofs.Common.{◌≡◌, drop}
use Rattle.ild_schema.specs.Places.{first_place}
use Rattle.ild_schema.specs.Rules.{is_not_bytes}
use Rattle.ild_accept.proofs.beside.bytes_member.Given as goal

abbrev pub invariant-loop-member : goal.invariant-loop-member
invariant-loop-member l = first_place (is_not_bytes l.schema) (λ x. x.at) (drop l.member-index l.members) ≡ first_place (is_not_bytes l.schema) (λ x. x.at) l.members
