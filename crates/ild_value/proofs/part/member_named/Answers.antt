use Rattle.ild_value.proofs.Leaves.{looked}
use Rattle.ild_value.proofs.Named.{member_found}
use Rattle.ild_value.proofs.part.member_named.Goals as goal

pub returns : goal.returns
returns c =
    member_found c.args.acc.now c.args.slot c.args.def.now c.args.name.now c.part_named.result c.requires.form
    (looked c.args.acc.now c.args.slot c.base.result.0 c.part_named.result c.args.name.now c.args.name.now c.base.ensures.same (λ i. c.args.name.now) c.part_named.ensures.same)
