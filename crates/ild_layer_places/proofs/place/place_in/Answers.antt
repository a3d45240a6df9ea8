use Rattle.std.proofs.Common.{◌≡◌, [], ◌∷◌, Some, subst}
use Rattle.ild_layer_places.specs.Places.{steps_of}
use Rattle.ild_layer_places.proofs.Placing.{finds_itself}
use Rattle.ild_typed.specs.RootSpots.{in_node}
use Rattle.ild_typed.specs.Spots.{item}
use Rattle.ild_typed.specs.Ways.{found_at}
use Rattle.ild_layer_places.proofs.place.place_in.Goals as goal

pub returns-in-Item : goal.returns-in-Item
returns-in-Item c = λ w p d stands e.
    c.behind.ensures w (item c.in-Item.i ∷ []) p d (c.item_of.ensures c.args.node.now w [] (finds_itself c.args.node.now w stands))
    (subst (λ x. found_at (steps_of x) w ≡ Some (p, d)) c.in-Item.is e)

pub returns-in-Within : goal.returns-in-Within
returns-in-Within c = λ w p d stands e.
    let first = c.item_of-in-Within.ensures c.args.node.now w [] (finds_itself c.args.node.now w stands) in
    c.behind-in-Within.ensures w (item c.in-Within.i ∷ item c.in-Within.j ∷ []) p d (c.item_of-in-Within-2.ensures c.args.node.now w (item c.in-Within.i ∷ []) first)
    (subst (λ x. found_at (steps_of x) w ≡ Some (p, d)) c.in-Within.is e)

pub returns-in-KeyInNode : goal.returns-in-KeyInNode
returns-in-KeyInNode c = λ w p d stands e.
    c.behind-in-KeyInNode.ensures w (in_node c.in-KeyInNode.element c.in-KeyInNode.entry 0) p d (c.in_node.ensures w stands)
    (subst (λ x. found_at (steps_of x) w ≡ Some (p, d)) c.in-KeyInNode.is e)

pub returns-in-ValueInNode : goal.returns-in-ValueInNode
returns-in-ValueInNode c = λ w p d stands e.
    c.behind-in-ValueInNode.ensures w (in_node c.in-ValueInNode.element c.in-ValueInNode.entry 1) p d (c.in_node-in-ValueInNode.ensures w stands)
    (subst (λ x. found_at (steps_of x) w ≡ Some (p, d)) c.in-ValueInNode.is e)
