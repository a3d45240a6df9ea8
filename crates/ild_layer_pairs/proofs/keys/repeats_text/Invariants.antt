use Rattle.std.proofs.Common.{length}
use Rattle.ild_layer_fields.specs.Entries.{text_entries}
use Rattle.ild_text.specs.Parts.{pairs_in}
use Rattle.ild_typed.specs.Named.{names}
use Rattle.ild_layer_pairs.proofs.Meeting.{Meeting}
use Rattle.ild_layer_pairs.proofs.keys.repeats_text.Given as goal

abbrev pub invariant-loop-key : goal.invariant-loop-key
invariant-loop-key l = Meeting (names (text_entries (pairs_in l.split))) (names (text_entries (pairs_in l.left))) l.seen

abbrev pub decreases-loop-key : goal.decreases-loop-key
decreases-loop-key l = length (pairs_in l.left)
