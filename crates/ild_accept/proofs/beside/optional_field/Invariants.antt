use Rattle.std.proofs.Common.{◌≡◌, [], take, drop}
use Rattle.std.specs.List.{list_any}
use Rattle.ild_schema.specs.Places.{first_beside}
use Rattle.ild_schema.specs.Rules.{is_optional_wrong}
use Rattle.ild_accept.proofs.beside.optional_field.Given as goal

abbrev pub invariant-loop-field : goal.invariant-loop-field
invariant-loop-field l = record {
  so_far : first_beside (is_optional_wrong l.form) (λ f. f.at) (take l.field-index l.fields) (drop l.field-index l.fields) ≡ first_beside (is_optional_wrong l.form) (λ f. f.at) [] l.fields;
  optional : l.optional ≡ list_any (λ f. f.optional) (take l.field-index l.fields);
}
