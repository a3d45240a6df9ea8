use Rattle.std.proofs.Common.{is_none, sym, ap, ◌∙◌}
use Rattle.ild_beneath_read.proofs.Looking.{free_past, free_there}
use Rattle.ild_beneath_read.proofs.fields.is_free.Goals as goal

pub returns-in-Some-node : goal.returns-in-Some-node
returns-in-Some-node c = ap is_none (sym c.in-Some-node.is) ∙ free_there c.args.found.now c.args.place c.in-Some.node.now c.in-Some.ensures.lookup.3.0 c.in-Some.ensures.lookup.1

pub returns-in-None-node : goal.returns-in-None-node
returns-in-None-node c = ap is_none (sym c.in-None-node.is) ∙ free_there c.args.found.now c.args.place c.in-Some.node.now c.in-Some.ensures.lookup.3.0 c.in-Some.ensures.lookup.1

pub returns-in-None : goal.returns-in-None
returns-in-None c = free_past c.args.found.now c.args.place c.in-None.ensures.lookup.3
