use Rattle.std.proofs.Common.{◌≡◌, ◌-◌, length, map, take}
use Rattle.ild_data.specs.Data.{items_list}
use Rattle.ild_value_parts.specs.Lists.{items_from}
use Rattle.ild_value_parts.proofs.Lists.{itself}
use Rattle.ild_value_parts.proofs.listed.any_elements.Given as goal

abbrev pub invariant-loop-item : goal.invariant-loop-item
invariant-loop-item l = items_list l.pairs ≡ items_from 0 (map itself (take (length (items_list l.pairs)) (items_list l.items)))

abbrev pub decreases-loop-item : goal.decreases-loop-item
decreases-loop-item l = length (items_list l.items) - length (items_list l.pairs)
