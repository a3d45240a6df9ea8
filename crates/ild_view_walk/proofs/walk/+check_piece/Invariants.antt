use Rattle.std.proofs.Common.{◌<◌}
use Rattle.ild_data.specs.Data.{Data}
use Rattle.ild_data.specs.Tree.{IsTree}
use Rattle.ild_layer_piece.specs.Pieces.{StandsFor}
use Rattle.ild_layer_parts.specs.PassedOver.{AreInside}
use Rattle.ild_layer_parts.specs.Parts.{parts_left}
use Rattle.ild_layer_parts.specs.Ready.{AreReady}
use Rattle.ild_view_walk.proofs.Walking.{Walking}
use Rattle.ild_view_walk.proofs.walk.+check_piece.Given as goal

abbrev pub decreases-check_piece : goal.decreases-check_piece
decreases-check_piece l = l.room

abbrev pub invariant-loop-part : goal.invariant-loop-part
invariant-loop-part l =
    AreReady l.acc l.parts × (l.opening.room < l.room) × ((t : Data) → StandsFor l.acc l.piece t → IsTree t → Walking l.acc l.room l.fn.slot t l.opening.room l.parts) × AreInside l.acc l.fn.slot.ty.0 l.piece l.parts

abbrev pub decreases-loop-part : goal.decreases-loop-part
decreases-loop-part l = parts_left l.parts
