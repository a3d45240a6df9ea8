use Rattle.std.proofs.Common.{◌≡◌, drop}
use Rattle.ild_schema.specs.Places.{first_place}
use Rattle.ild_schema.specs.Rules.{is_value_wrong}
use Rattle.ild_accept_rules.proofs.strategy.wrong_value.Given as goal

abbrev pub invariant-loop-member : goal.invariant-loop-member
invariant-loop-member l = first_place (is_value_wrong l.def.form) (λ x. x.at) (drop l.member-index l.def.members) ≡ first_place (is_value_wrong l.def.form) (λ x. x.at) l.def.members
