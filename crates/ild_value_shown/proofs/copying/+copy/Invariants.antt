use Rattle.std.proofs.Common.{◌≡◌, ◌+◌, ◌-◌, ◌*◌, length, take}
use Rattle.ild_schema.specs.Value.{height, values_height, pairs_height, optionals_height, values_list, pairs_list, optionals_list}
use Rattle.ild_schema.specs.ValueSeen.{optional_of, value_of}
use Rattle.ild_value_shown.proofs.Heights.{field_height}
use Rattle.ild_value_shown.proofs.copying.+copy.Given as goal

abbrev pub decreases-copy : goal.decreases-copy
decreases-copy l = 3 * height (value_of l.val.now)

abbrev pub decreases-copy_elements : goal.decreases-copy_elements
decreases-copy_elements l = 3 * values_height l.vals.now + 1

abbrev pub decreases-copy_entries : goal.decreases-copy_entries
decreases-copy_entries l = 3 * pairs_height l.pairs.now + 1

abbrev pub decreases-copy_fields : goal.decreases-copy_fields
decreases-copy_fields l = 3 * optionals_height l.fields.now + 2

abbrev pub decreases-copy_field : goal.decreases-copy_field
decreases-copy_field l = 3 * field_height (optional_of l.field.now) + 1

abbrev pub decreases-copy_part : goal.decreases-copy_part
decreases-copy_part l = 3 * height l.part.now + 1

abbrev pub invariant-copy_elements-loop-val : goal.invariant-copy_elements-loop-val
invariant-copy_elements-loop-val l = values_list l.copies ≡ take (length (values_list l.copies)) (values_list l.vals)

abbrev pub decreases-copy_elements-loop-val : goal.decreases-copy_elements-loop-val
decreases-copy_elements-loop-val l = length (values_list l.vals) - length (values_list l.copies)

abbrev pub invariant-copy_entries-loop-pair : goal.invariant-copy_entries-loop-pair
invariant-copy_entries-loop-pair l = pairs_list l.copies ≡ take (length (pairs_list l.copies)) (pairs_list l.pairs)

abbrev pub decreases-copy_entries-loop-pair : goal.decreases-copy_entries-loop-pair
decreases-copy_entries-loop-pair l = length (pairs_list l.pairs) - length (pairs_list l.copies)

abbrev pub invariant-copy_fields-loop-field : goal.invariant-copy_fields-loop-field
invariant-copy_fields-loop-field l = optionals_list l.copies ≡ take (length (optionals_list l.copies)) (optionals_list l.fields)

abbrev pub decreases-copy_fields-loop-field : goal.decreases-copy_fields-loop-field
decreases-copy_fields-loop-field l = length (optionals_list l.fields) - length (optionals_list l.copies)
