use Rattle.ild_data.specs.Data.{Items}
use Rattle.ild_cbor.specs.Steps.{HasItems}
use Rattle.ild_node_slots.proofs.Left.{ElementsLeft}
use Rattle.ild_node_slots.proofs.parts.elements_fit.Given as goal

abbrev pub invariant-loop-i : goal.invariant-loop-i
invariant-loop-i l = (ds : Items) → HasItems l.fn.elements ds → ElementsLeft l.elements l.most l.ones l.slots l.i ds
