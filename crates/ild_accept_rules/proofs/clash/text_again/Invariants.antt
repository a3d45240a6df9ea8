use Rattle.std.proofs.Common.{◌≡◌, [], take, drop}
use Rattle.ild_schema.specs.declared.def.EnumForm.TheVariants as E
use Rattle.ild_schema.specs.Clashes.{is_value_again}
use Rattle.ild_schema.specs.Places.{first_beside}
use Rattle.ild_accept_rules.proofs.clash.text_again.Given as goal

abbrev pub invariant-loop-part : goal.invariant-loop-part
invariant-loop-part l = first_beside (is_value_again E.Text) (λ m. m.at) (take l.part l.def.members) (drop l.part l.def.members) ≡ first_beside (is_value_again E.Text) (λ m. m.at) [] l.def.members
