use Rattle.std.proofs.Common.{◌≡◌, drop}
use Rattle.ild_schema.specs.Places.{first_place}
use Rattle.ild_schema.specs.Rules.{is_null_twice}
use Rattle.ild_accept.proofs.part.null_field.Given as goal

abbrev pub invariant-loop-field : goal.invariant-loop-field
invariant-loop-field l = first_place (λ f. is_null_twice l.schema f.slot) (λ x. x.at) (drop l.field-index l.def.fields) ≡ first_place (λ f. is_null_twice l.schema f.slot) (λ x. x.at) l.def.fields
