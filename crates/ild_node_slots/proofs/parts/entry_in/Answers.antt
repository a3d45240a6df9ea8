use Rattle.std.proofs.Common.{None, Some}
use Rattle.ild_node_slots.proofs.Entries.{entry-made}
use Rattle.ild_node_slots.proofs.parts.entry_in.Goals as goal

pub returns-in-None : goal.returns-in-None
returns-in-None c = λ t h. entry-made c.args.node.now c.in_ok-key.key c.in_ok-key.value t _ None (c.in_ok-key.ensures t h) c.in_ok-bytes.ensures c.in-None.ensures

pub returns-in-Some : goal.returns-in-Some
returns-in-Some c = λ t h. entry-made c.args.node.now c.in_ok-key.key c.in_ok-key.value t _ (Some c.in-Some.key) (c.in_ok-key.ensures t h) c.in_ok-bytes.ensures c.in-Some.ensures
