use Rattle.ild_data.specs.Data as T
use Rattle.ild_cbor.specs.Steps.{HasItems}
use Rattle.ild_layer_pairs.proofs.Digesting.{Digesting}
use Rattle.ild_layer_pairs.proofs.apart.digests.Given as goal

abbrev pub invariant-loop-name : goal.invariant-loop-name
invariant-loop-name l = (ds : T.Items) → HasItems l.fn.items ds → Digesting ds l.left l.found.items

abbrev pub decreases-loop-name : goal.decreases-loop-name
decreases-loop-name l = l.left.left
