use Rattle.std.proofs.Common.{ℕ, List}
use Rattle.ild_data.specs.Data.{Data}
use Rattle.ild_layer_piece.specs.Entries.{HasLeft}
use Rattle.ild_beneath_read.proofs.Looking.{Looking}
use Rattle.ild_beneath_read.proofs.fields.found_in_map.Given as goal

abbrev pub invariant-loop-name : goal.invariant-loop-name
invariant-loop-name l = (es : List (List ℕ × Data)) → HasLeft l.entries es → Looking l.fields.def.now.fields es l.left l.found.items
