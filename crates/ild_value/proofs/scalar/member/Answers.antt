use Rattle.std.proofs.Common.{◌<◌, length, arith}
use Rattle.std.specs.Prelude.{Some, None}
use Rattle.ild_schema.specs.Copies.{base}
use Rattle.ild_schema.specs.declared.def.TypeDef.TheVariants as T
use Rattle.ild_value.proofs.Leaves.{enum_means, enum_breaks, part_low, looked}
use Rattle.ild_value.proofs.scalar.member.Goals as goal

pub overflow_cast-result : goal.overflow_cast-result
overflow_cast-result c =
    let h : c.in-Some.n < length c.args.def.now.members =
    part_low c.args.acc.now c.base.result.0 (base c.args.acc.now c.args.slot.ty.0) c.in-Some.n (T.Enum c.args.def.now) c.base.ensures.same c.requires.form c.in-Some.ensures.within in
    omega arith

pub returns-in-Some-clause-ok : goal.returns-in-Some-clause-ok
returns-in-Some-clause-ok c =
    enum_means c.args.acc.now c.args.slot c.args.def.now c.args.text.now c.in-Some.n c.requires.form
    (looked c.args.acc.now c.args.slot c.base.result.0 (Some c.in-Some.n) c.as_str.result.now c.args.text.now c.base.ensures.same c.as_str.ensures.same c.in-Some.ensures.same)

pub returns-in-None-clause-err : goal.returns-in-None-clause-err
returns-in-None-clause-err c =
    enum_breaks c.args.acc.now c.args.slot c.args.def.now c.args.text.now c.requires.form
    (looked c.args.acc.now c.args.slot c.base.result.0 None c.as_str.result.now c.args.text.now c.base.ensures.same c.as_str.ensures.same c.in-None.ensures.same)
