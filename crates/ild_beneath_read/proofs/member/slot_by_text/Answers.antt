use Rattle.std.proofs.Common.{Some, ap, ◌∙◌}
use Rattle.ild_schema.specs.Rows.{def_at}
use Rattle.ild_beneath_read.proofs.Choosing.{text_nowhere, text_past, text_there}
use Rattle.ild_beneath_read.proofs.member.slot_by_text.Goals as goal

pub returns-in_default : goal.returns-in_default
returns-in_default c = text_nowhere c.args.text.now (def_at c.args.acc.now c.args.base.0) c.args.def.now c.requires.known c.in_default.ensures.same

pub returns-in-Some-get : goal.returns-in-Some-get
returns-in-Some-get c =
    ap Some c.slot_of.ensures ∙ text_there c.args.text.now (def_at c.args.acc.now c.args.base.0) c.args.def.now c.requires.known c.in-Some.number c.in-Some-get.member.now c.in-Some.ensures.same c.in-Some-get.ensures

pub returns-in-None : goal.returns-in-None
returns-in-None c = text_past c.args.text.now (def_at c.args.acc.now c.args.base.0) c.args.def.now c.requires.known c.in-Some.number c.in-Some.ensures.same c.in-None.ensures
