use Rattle.std.proofs.Common.{subst}
use Rattle.ild_layer_places.specs.Places.{WayFinds}
use Rattle.ild_layer_places.proofs.Placing.{finds_item, finds_none}
use Rattle.ild_layer_places.proofs.place.item_of.Goals as goal

pub returns-in-Some : goal.returns-in-Some
returns-in-Some c = λ n w way all. finds_item n c.in-Some.list w way c.args.i c.item.result c.item.ensures (subst (WayFinds n w way) c.in-Some.is all)

pub returns-in-None : goal.returns-in-None
returns-in-None c = λ n w way all. finds_none n w way c.args.i (subst (WayFinds n w way) c.in-None.is all)
