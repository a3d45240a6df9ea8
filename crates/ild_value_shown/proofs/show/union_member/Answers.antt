use Rattle.std.proofs.Common.{length, subst, sym}
use Rattle.ild_schema.specs.declared.def.Member.{Member}
use Rattle.ild_schema.specs.Table.{IsWithin}
use Rattle.ild_value_shown.proofs.Picked.{number_low}
use Rattle.ild_value_shown.proofs.show.union_member.Goals as goal

pub returns-in-Some-clause-within : goal.returns-in-Some-clause-within
returns-in-Some-clause-within c =
    number_low (λ (m : Member). m.ty.0) (length c.args.acc.now) c.in-Union.def.members ((subst (IsWithin (length c.args.acc.now)) c.in-Union.is c.form.ensures.within).1) c.args.n c.in-Some.member.now (sym c.in-Some.ensures)
