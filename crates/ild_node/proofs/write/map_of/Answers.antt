use Rattle.std.proofs.Common.{refl}
use Rattle.ild_node.proofs.Writing.{byte-more}
use Rattle.ild_node.proofs.write.map_of.Goals as goal

pub loop-j-preserved : goal.loop-j-preserved
loop-j-preserved c = byte-more c.args.used.now _ c.loop-j.j _ _ _ c.loop-j.invariant refl c.byte_of.ensures c.in_ok-push.ensures.items
