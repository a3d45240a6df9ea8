use Rattle.std.proofs.Common.{arith, rules}
use Rattle.ild_node_slots.proofs.Counts.{ones-at}
use Rattle.ild_node_slots.proofs.parts.ones_in.Goals as goal

pub returns-in-Some-clause-count : goal.returns-in-Some-clause-count
returns-in-Some-clause-count c = ones-at c.args.ones.now c.args.j c.in-Some.byte.now (search rules) (omega arith)
