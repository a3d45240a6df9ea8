use Rattle.std.proofs.Common.{◌≡◌, ◌-◌, length, map, take}
use Rattle.ild_data.specs.Data.{items_list, members_list}
use Rattle.ild_value_parts.proofs.Lists.{named_entry}
use Rattle.ild_value_parts.proofs.listed.any_entries.Given as goal

abbrev pub invariant-loop-key : goal.invariant-loop-key
invariant-loop-key l = items_list l.pairs ≡ map named_entry (take (length (items_list l.pairs)) (members_list l.members))

abbrev pub decreases-loop-key : goal.decreases-loop-key
decreases-loop-key l = length (members_list l.members) - length (items_list l.pairs)
