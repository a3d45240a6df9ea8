use Rattle.std.specs.Map.{values_of}
use Rattle.ild_open_known.proofs.Adding.{is_known_node}
use Rattle.ild_open_known.proofs.table.Known.has_node.Goals as goal

pub returns-then-covers : goal.returns-then-covers
returns-then-covers c = λ same.
    is_known_node (values_of c.args.self.now.nodes.entries) c.in-Some.spot.now c.in-Some.ensures.member c.args.read_as c.args.id.0 c.args.way.now (c.covers.ensures c.if-covers.true) (c.is_at.ensures same)
