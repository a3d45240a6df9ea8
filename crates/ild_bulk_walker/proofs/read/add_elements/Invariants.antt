use Rattle.ild_data.specs.Data.{Items}
use Rattle.ild_cbor.specs.Steps.{HasItems}
use Rattle.ild_bulk_walker.proofs.Adding.{ElementsRead}
use Rattle.ild_bulk_walker.proofs.read.add_elements.Given as goal

abbrev pub invariant-loop-i : goal.invariant-loop-i
invariant-loop-i l = (ds : Items) → HasItems l.fn.elements ds → ElementsRead l.shape l.items l.map l.i l.held.value ds l.initial.steps.items l.steps.items
