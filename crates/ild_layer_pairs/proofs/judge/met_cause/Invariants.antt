use Rattle.ild_data.specs.Data as T
use Rattle.ild_cbor.specs.Steps.{HasItems}
use Rattle.ild_layer_pairs.proofs.Judging.{Judging}
use Rattle.ild_layer_pairs.proofs.judge.met_cause.Given as goal

abbrev pub invariant-loop-item : goal.invariant-loop-item
invariant-loop-item l = (ds : T.Items) → HasItems l.items ds → Judging ds l.left l.miscounted l.repeated l.seen
