use Rattle.ild_node_slots.proofs.Entries.{pair-found}
use Rattle.ild_node_slots.proofs.parts.pair_in.Goals as goal

pub returns : goal.returns
returns c = λ t h. pair-found c.args.node.now t c.pair.result (c.pair.ensures t h)
