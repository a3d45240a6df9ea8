use Rattle.std.proofs.Common.{subst}
use Rattle.ild_layer_piece.specs.Pieces.{StandsFor}
use Rattle.ild_view_walk.proofs.hamt.open_hamt.Goals as goal

pub returns-in-Node-clause-opens : goal.returns-in-Node-clause-opens
returns-in-Node-clause-opens c = λ rows key_at at t stands. c.open_root.ensures.opens rows key_at at t (subst (λ p. StandsFor rows p t) c.in-Node.is stands)
