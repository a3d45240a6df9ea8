use Rattle.ild_union.proofs.Forming.{inline_of}
use Rattle.ild_union.proofs.union.of_form.Goals as goal

pub returns-in-Node-clause-inlined : goal.returns-in-Node-clause-inlined
returns-in-Node-clause-inlined c = inline_of c.args.acc.now c.args.own.0 c.args.piece.now c.in-Node.node c.inline.result c.in-Node.is c.inline.ensures.same
