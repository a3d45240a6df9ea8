use Rattle.std.proofs.Common.{◌≡◌, ◌-◌, length, map, take}
use Rattle.ild_data.specs.Data.{items_list}
use Rattle.ild_schema.specs.Value.{pairs_list}
use Rattle.ild_value_parts.proofs.Lists.{entry_shown}
use Rattle.ild_value_parts.proofs.listed.entries.Given as goal

abbrev pub invariant-loop-entry : goal.invariant-loop-entry
invariant-loop-entry l = items_list l.pairs ≡ map (entry_shown l.acc l.elem) (take (length (items_list l.pairs)) (pairs_list l.vals))

abbrev pub decreases-loop-entry : goal.decreases-loop-entry
decreases-loop-entry l = length (pairs_list l.vals) - length (items_list l.pairs)
