use Rattle.std.proofs.Common.{sym}
use Rattle.ild_layer_piece.specs.Pieces.{StandsFor}
use Rattle.ild_path_last.proofs.Forming.{map_entry, map_pair}
use Rattle.ild_path_last.proofs.map.map_change.Goals as goal

pub returns-in-Map : goal.returns-in-Map
returns-in-Map c = λ es t d x u stands made after shown.
    map_entry (StandsFor c.args.acc.now c.args.piece.now) c.args.segment.now es t d x u c.key_change.result stands c.args.form.now (sym c.in-Map.is) made (λ y at. c.key_change.ensures y d x u at after shown)

pub returns-in-ListPairs : goal.returns-in-ListPairs
returns-in-ListPairs c = λ es t d x u stands made after shown.
    map_pair (StandsFor c.args.acc.now c.args.piece.now) c.args.segment.now es t d x u c.key_pair_change.result stands c.args.form.now (sym c.in-ListPairs.is) made (λ at. c.key_pair_change.ensures c.args.acc.now es d x u at after shown)
