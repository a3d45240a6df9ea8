use Rattle.std.proofs.Common.{◌≡◌, ◌+◌, length}
use Rattle.ild_data.specs.Key.{value_at}
use Rattle.ild_path_changes.specs.Places.{place_of}
use Rattle.ild_text.specs.Parts.{pairs_in}
use Rattle.ild_path_pairs.proofs.place.key_seat.Given as goal

abbrev pub invariant-loop-name : goal.invariant-loop-name
invariant-loop-name l = (l.place + place_of l.key (pairs_in l.left) ≡ place_of l.key (pairs_in l.fn.split)) × (value_at l.key (pairs_in l.left) ≡ value_at l.key (pairs_in l.fn.split)) × (l.place + length (pairs_in l.left) ≡ length (pairs_in l.fn.split))

abbrev pub decreases-loop-name : goal.decreases-loop-name
decreases-loop-name l = length (pairs_in l.left)
