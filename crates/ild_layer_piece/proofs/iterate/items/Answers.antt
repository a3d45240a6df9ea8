use Rattle.std.proofs.Common.{subst}
use Rattle.ild_cbor.specs.declared.piece.Piece.{Piece}
use Rattle.ild_layer_piece.specs.Pieces.{StandsFor}
use Rattle.ild_layer_piece.proofs.Stand.{lists_items}
use Rattle.ild_layer_piece.proofs.iterate.items.Goals as goal

pub returns-in-Node : goal.returns-in-Node
returns-in-Node c = λ rows t h. lists_items c.in-Node.node t c.items.result (c.items.ensures t (subst (λ (p : Piece). StandsFor rows p t) c.in-Node.is h))
