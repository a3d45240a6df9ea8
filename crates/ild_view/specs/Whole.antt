-- Views of whole blocks.
use Rattle.std.specs.Prelude.{◌≡◌, ℕ, List, Some}
use Rattle.ild_cbor.specs.Block.{IsBlockOf}
use Rattle.ild_cbor.specs.Nodes.{IsRoot}
use Rattle.ild_cbor.specs.declared.node.Node.{Node}
use Rattle.ild_cbor.specs.declared.piece.Piece.TheVariants as P
use Rattle.ild_data.specs.Data.{Data}
use Rattle.ild_view.specs.View.{piece_of}
use Rattle.ild_view.specs.declared.view.View.{View}

-- the view of a whole block, that of these data
pub record IsWholeView (v : View) (t : Data) : Type 0 where
  pub node : Node
  pub piece : piece_of v ≡ Some (P.Node node)
  pub block : List ℕ
  pub spelled : IsBlockOf block t
  pub root : IsRoot node block t
