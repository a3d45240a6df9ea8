use Rattle.std.proofs.Common.{◌≡◌, ◌-◌, length, map, take}
use Rattle.ild_data.specs.Data.{items_list}
use Rattle.ild_schema.specs.Value.{values_list}
use Rattle.ild_typed.specs.Shown.{shown}
use Rattle.ild_value_parts.specs.Lists.{items_from}
use Rattle.ild_value_parts.proofs.listed.elements.Given as goal

abbrev pub invariant-loop-val : goal.invariant-loop-val
invariant-loop-val l = items_list l.pairs ≡ items_from 0 (map (λ v. shown l.acc l.elem v) (take (length (items_list l.pairs)) (values_list l.vals)))

abbrev pub decreases-loop-val : goal.decreases-loop-val
decreases-loop-val l = length (values_list l.vals) - length (items_list l.pairs)
