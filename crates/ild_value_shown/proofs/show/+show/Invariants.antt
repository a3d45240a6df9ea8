use Rattle.std.proofs.Common.{◌≡◌, ◌+◌, ◌-◌, ◌*◌, ◌++◌, length, take, drop, map}
use Rattle.ild_data.specs.Data.{items_list}
use Rattle.ild_data.specs.Seen.{pair_of}
use Rattle.ild_schema.specs.Value.{height, values_height, pairs_height, optionals_height, values_list, pairs_list, optionals_list}
use Rattle.ild_schema.specs.ValueSeen.{value_of}
use Rattle.ild_typed.specs.Shown.{shown}
use Rattle.ild_value_shown.proofs.Forms.{shown_pair, present_shown}
use Rattle.ild_value_shown.proofs.show.+show.Given as goal

abbrev pub decreases-shown : goal.decreases-shown
decreases-shown l = 4 * height (value_of l.val.now)

abbrev pub decreases-elements : goal.decreases-elements
decreases-elements l = 4 * values_height l.vals.now + 2

abbrev pub decreases-trees_in : goal.decreases-trees_in
decreases-trees_in l = 4 * values_height l.vals.now + 1

abbrev pub decreases-entries : goal.decreases-entries
decreases-entries l = 4 * pairs_height l.vals.now + 2

abbrev pub decreases-pairs_in : goal.decreases-pairs_in
decreases-pairs_in l = 4 * pairs_height l.vals.now + 1

abbrev pub decreases-fields_in : goal.decreases-fields_in
decreases-fields_in l = 4 * optionals_height l.vals.now + 2

abbrev pub decreases-present : goal.decreases-present
decreases-present l = 4 * optionals_height l.vals.now + 1

abbrev pub decreases-member : goal.decreases-member
decreases-member l = 4 * height l.part.now + 2

abbrev pub decreases-named : goal.decreases-named
decreases-named l = 4 * height l.part.now + 1

abbrev pub invariant-trees_in-loop-val : goal.invariant-trees_in-loop-val
invariant-trees_in-loop-val l = items_list l.trees ≡ map (λ v. shown l.acc l.elem v) (take (length (items_list l.trees)) (values_list l.vals))

abbrev pub decreases-trees_in-loop-val : goal.decreases-trees_in-loop-val
decreases-trees_in-loop-val l = length (values_list l.vals) - length (items_list l.trees)

abbrev pub invariant-pairs_in-loop-pair : goal.invariant-pairs_in-loop-pair
invariant-pairs_in-loop-pair l = map pair_of l.pairs.items ≡ map (shown_pair l.acc l.elem) (take (length (map pair_of l.pairs.items)) (pairs_list l.vals))

abbrev pub decreases-pairs_in-loop-pair : goal.decreases-pairs_in-loop-pair
decreases-pairs_in-loop-pair l = length (pairs_list l.vals) - length (map pair_of l.pairs.items)

abbrev pub invariant-present-loop-i : goal.invariant-present-loop-i
invariant-present-loop-i l = map pair_of l.pairs.items ++ present_shown l.acc (drop l.i l.fields) (drop l.i (optionals_list l.vals)) ≡ present_shown l.acc l.fields (optionals_list l.vals)
