use Rattle.ild_cbor.specs.Steps.{HasItems}
use Rattle.ild_data.specs.Data as T
use Rattle.ild_beneath_read.proofs.Looking.{Searching}
use Rattle.ild_beneath_read.proofs.fields.found_in_list.Given as goal

abbrev pub invariant-loop-item : goal.invariant-loop-item
invariant-loop-item l = (ds : T.Items) → HasItems l.items ds → Searching l.fields.def.now.fields ds l.left l.found.items
