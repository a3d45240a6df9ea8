use Rattle.std.proofs.Common.{◌≡◌, ℕ, List, [], take}
use Rattle.ild_data.specs.ByteOrder.{without}
use Rattle.ild_data.specs.Data.{Data}
use Rattle.ild_node_slots.specs.Views.{HasEntries}
use Rattle.ild_hamt_climb.specs.inside.Gathering.{put_each}
use Rattle.ild_hamt_climb.proofs.gathering.rows_without.Given as goal

abbrev pub invariant-loop-i : goal.invariant-loop-i
invariant-loop-i l = (es : List (List ℕ × Data)) → HasEntries l.bucket es → l.rows ≡ put_each (without l.key (take l.i es)) []
