use Rattle.ild_schema.specs.Rows.{def_at}
use Rattle.ild_union.proofs.Inlining.{inline_answer}
use Rattle.ild_union.proofs.inline.inline.Goals as goal

pub returns-clause-answer : goal.returns-clause-answer
returns-clause-answer c = λ t u stands known form passed.
    inline_answer c.args.acc.now c.args.own.0 u c.args.key.now c.in-Some-text.name.now c.args.node.now c.in-Some.discriminant t form passed (c.in-Map.ensures t stands) stands
    c.in-Some.ensures c.in-Some-text.ensures (def_at c.args.acc.now c.args.ty.0) known c.member.result c.member.ensures.answer
