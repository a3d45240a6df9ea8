use Rattle.std.specs.Prelude.{Some, None}
use Rattle.ild_value.proofs.Leaves.{looked}
use Rattle.ild_value.proofs.Named.{field_found}
use Rattle.ild_value.proofs.part.is_named.Goals as goal

pub returns-in-Some : goal.returns-in-Some
returns-in-Some c =
    field_found c.args.acc.now c.args.slot c.args.def.now c.args.name.now (Some c.in-Some.field-0) c.requires.form
    (looked c.args.acc.now c.args.slot c.base.result.0 (Some c.in-Some.field-0) c.args.name.now c.args.name.now c.base.ensures.same (λ i. c.args.name.now) c.in-Some.ensures.same)

pub returns-in-None : goal.returns-in-None
returns-in-None c =
    field_found c.args.acc.now c.args.slot c.args.def.now c.args.name.now None c.requires.form
    (looked c.args.acc.now c.args.slot c.base.result.0 None c.args.name.now c.args.name.now c.base.ensures.same (λ i. c.args.name.now) c.in-None.ensures.same)
