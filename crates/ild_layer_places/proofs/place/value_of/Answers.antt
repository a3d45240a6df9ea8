use Rattle.ild_layer_places.proofs.Placing.{finds_value}
use Rattle.ild_layer_places.proofs.place.value_of.Goals as goal

pub returns : goal.returns
returns c = λ w stands. finds_value c.args.node.now w c.args.key.now c.entry.result c.entry.ensures stands
