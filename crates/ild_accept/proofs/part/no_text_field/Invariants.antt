use Rattle.std.proofs.Common.{◌≡◌, ◌&&◌, drop}
use Rattle.ild_schema.specs.Places.{first_place}
use Rattle.ild_schema.specs.Rules.{is_text_struct, is_no_text}
use Rattle.ild_accept.proofs.part.no_text_field.Given as goal

abbrev pub invariant-loop-field : goal.invariant-loop-field
invariant-loop-field l = first_place (λ f. is_text_struct l.def.form && is_no_text l.schema f.slot) (λ x. x.at) (drop l.field-index l.def.fields) ≡ first_place (λ f. is_text_struct l.def.form && is_no_text l.schema f.slot) (λ x. x.at) l.def.fields
