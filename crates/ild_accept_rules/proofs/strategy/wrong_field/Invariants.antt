use Rattle.std.proofs.Common.{◌≡◌, drop}
use Rattle.ild_schema.specs.Places.{first_place}
use Rattle.ild_schema.specs.Rules.{is_field_wrong}
use Rattle.ild_accept_rules.proofs.strategy.wrong_field.Given as goal

abbrev pub invariant-loop-field : goal.invariant-loop-field
invariant-loop-field l = first_place (is_field_wrong l.def.form) (λ x. x.at) (drop l.field-index l.def.fields) ≡ first_place (is_field_wrong l.def.form) (λ x. x.at) l.def.fields
