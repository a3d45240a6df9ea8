use Rattle.std.proofs.Common.{[], ◌∷◌}
use Rattle.ild_typed.specs.Spots.{item, under}
use Rattle.std.proofs.Common.{codes}
use Rattle.ild_layer_places.proofs.place.in_node.Goals as goal

pub returns : goal.returns
returns c = λ w stands.
    let n = c.args.node.now in
    let root = c.value_of-root.ensures w stands in
    let elements = c.item_of-elements.ensures n w (under (codes "hamt") ∷ []) root in
    let bucket = c.item_of-bucket.ensures n w (under (codes "hamt") ∷ item 1 ∷ []) elements in
    let pair = c.item_of-pair.ensures n w (under (codes "hamt") ∷ item 1 ∷ item c.args.element ∷ []) bucket in
    c.item_of.ensures n w (under (codes "hamt") ∷ item 1 ∷ item c.args.element ∷ item c.args.entry ∷ []) pair
