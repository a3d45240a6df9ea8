use Rattle.ild_node_slots.proofs.Around.{used-read}
use Rattle.ild_node_slots.proofs.view.NodeView.is_used.Goals as goal

pub returns : goal.returns
returns c = λ p slots has lt. used-read p c.args.self.now slots c.args.i c.map_bit.result has lt c.map_bit.ensures
