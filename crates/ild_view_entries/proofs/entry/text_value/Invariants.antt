use Rattle.std.proofs.Common.{◌≡◌, length}
use Rattle.ild_data.specs.Key.{value_at}
use Rattle.ild_text.specs.Parts.{pairs_in}
use Rattle.ild_view_entries.proofs.entry.text_value.Given as goal

abbrev pub invariant-loop-name : goal.invariant-loop-name
invariant-loop-name l = value_at l.key (pairs_in l.split) ≡ value_at l.key (pairs_in l.left)

abbrev pub decreases-loop-name : goal.decreases-loop-name
decreases-loop-name l = length (pairs_in l.left)
