use Rattle.ild_data.specs.Data.{Data}
use Rattle.ild_layer_piece.specs.Pieces.{StandsFor}
use Rattle.ild_layer_piece.proofs.Stand.{piece_rises}
use Rattle.ild_view_tree.proofs.Treeing.{if_made, inline_tree}
use Rattle.ild_view_tree.proofs.piece.piece_tree.Goals as goal

pub returns-in-Some : goal.returns-in-Some
returns-in-Some c = if_made (λ (t : Data). StandsFor c.args.acc.now c.args.piece.now t) c.entries_tree.result (λ t stands.
    inline_tree c.in-Some.left c.entries_tree.result t (piece_rises c.args.acc.now c.args.piece.now t stands) (c.in-Some.ensures t stands) c.entries_tree.ensures)
