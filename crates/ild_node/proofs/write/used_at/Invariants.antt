use Rattle.ild_node.proofs.Writing.{BitsLeft}
use Rattle.ild_node.proofs.write.used_at.Given as goal

abbrev pub invariant-loop-i : goal.invariant-loop-i
invariant-loop-i l = BitsLeft l.slots l.count l.i l.next l.used.items
