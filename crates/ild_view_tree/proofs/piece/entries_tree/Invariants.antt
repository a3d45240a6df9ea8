use Rattle.std.proofs.Common.{ℕ, List}
use Rattle.ild_data.specs.Data.{Data}
use Rattle.ild_data.specs.Key.{Rises}
use Rattle.ild_layer_piece.specs.Entries.{HasLeft}
use Rattle.ild_view_tree.proofs.Treeing.{EntriesRead}
use Rattle.ild_view_tree.proofs.piece.entries_tree.Given as goal

abbrev pub invariant-loop-key : goal.invariant-loop-key
invariant-loop-key l = (es : List (List ℕ × Data)) → HasLeft l.entries es → Rises es → EntriesRead es l.members l.left
