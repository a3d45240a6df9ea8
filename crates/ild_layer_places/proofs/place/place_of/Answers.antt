use Rattle.std.proofs.Common.{subst, sym}
use Rattle.ild_layer_places.specs.Places.{LeadsIn, PlacedAt, steps_of}
use Rattle.ild_layer_places.proofs.Placing.{placed_node}
use Rattle.ild_layer_places.proofs.place.place_of.Goals as goal

pub returns-in-Node : goal.returns-in-Node
returns-in-Node c = λ leads.
    let steps = steps_of c.args.way.now in
    subst (λ q. PlacedAt q steps c.place_in.result) (sym c.in-Node.is)
    (placed_node c.in-Node.node steps c.place_in.result c.place_in.ensures (subst (λ q. LeadsIn q steps) c.in-Node.is leads))

pub returns-in-Inline : goal.returns-in-Inline
returns-in-Inline c = λ leads.
    let steps = steps_of c.args.way.now in
    subst (λ q. PlacedAt q steps c.place_in-in-Inline.result) (sym c.in-Inline.is)
    (placed_node c.in-Inline.node steps c.place_in-in-Inline.result c.place_in-in-Inline.ensures (subst (λ q. LeadsIn q steps) c.in-Inline.is leads))
