use Rattle.std.proofs.Common.{◌≡◌, [], take, drop}
use Rattle.ild_schema.specs.Clashes.{is_field_again}
use Rattle.ild_schema.specs.Places.{first_beside}
use Rattle.ild_accept_rules.proofs.clash.field_again.Given as goal

abbrev pub invariant-loop-part : goal.invariant-loop-part
invariant-loop-part l = first_beside is_field_again (λ f. f.at) (take l.part l.def.fields) (drop l.part l.def.fields) ≡ first_beside is_field_again (λ f. f.at) [] l.def.fields
