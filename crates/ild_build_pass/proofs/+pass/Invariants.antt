use Rattle.std.proofs.Common.{◌+◌, ◌*◌, [], length, drop, take, true}
use Rattle.ild_schema.specs.Value.{height, values_height, pairs_height, optionals_height, optionals_list, pairs_list, values_list}
use Rattle.ild_schema.specs.ValueSeen.{value_of}
use Rattle.ild_build_leaf.specs.Made.{entries_major}
use Rattle.ild_build_pass.specs.inside.Made.{counted, entries_made, fields_made, items_made, tuple_made}
use Rattle.ild_build_leaf.specs.Kept.{count_present, count_written}
use Rattle.ild_build_pass.specs.inside.Places.{named, places_made, written_of}
use Rattle.ild_typed.specs.Hamt.{whole}
use Rattle.ild_build_pass.specs.Weights.{entries_weight, fields_weight, items_weight, places_weight}
use Rattle.ild_build_pass.proofs.Flow.{ToGo}
use Rattle.ild_build_pass.proofs.EntryOrder.{MarkedSoFar}
use Rattle.ild_build_pass.proofs.+pass.Given as goal

abbrev pub invariant-lists::add_items-loop-i : goal.invariant-lists::add_items-loop-i
invariant-lists::add_items-loop-i g l =
    ToGo g.H.KeyHash.hash_of l.acc (counted 4 (length (values_list l.vals)) (items_made (whole g.H.KeyHash.hash_of) l.acc l.elem (values_list l.vals))) (items_made (whole g.H.KeyHash.hash_of) l.acc l.elem (drop l.i (values_list l.vals)))
    (λ μ. items_weight μ l.acc l.elem (values_list l.vals)) (λ μ. items_weight μ l.acc l.elem (drop l.i (values_list l.vals))) l.fn.out l.out l.fn.nodes l.nodes

abbrev pub invariant-maps::add_pairs-loop-i : goal.invariant-maps::add_pairs-loop-i
invariant-maps::add_pairs-loop-i g l =
    ToGo g.H.KeyHash.hash_of l.acc (counted (entries_major l.paired) (length (pairs_list l.pairs)) (entries_made (whole g.H.KeyHash.hash_of) l.acc l.paired l.value (pairs_list l.pairs))) (entries_made (whole g.H.KeyHash.hash_of) l.acc l.paired l.value (drop l.i (pairs_list l.pairs)))
    (λ μ. entries_weight μ l.acc l.value (pairs_list l.pairs)) (λ μ. entries_weight μ l.acc l.value (drop l.i (pairs_list l.pairs))) l.fn.out l.out l.fn.nodes l.nodes

abbrev pub invariant-structs::add_tuple-loop-i : goal.invariant-structs::add_tuple-loop-i
invariant-structs::add_tuple-loop-i g l =
    ToGo g.H.KeyHash.hash_of l.acc (counted 4 (count_present (optionals_list l.vals)) (tuple_made (whole g.H.KeyHash.hash_of) l.acc l.def.fields (optionals_list l.vals))) (tuple_made (whole g.H.KeyHash.hash_of) l.acc (drop l.i l.def.fields) (drop l.i (optionals_list l.vals)))
    (λ μ. fields_weight μ l.acc l.def.fields (optionals_list l.vals)) (λ μ. fields_weight μ l.acc (drop l.i l.def.fields) (drop l.i (optionals_list l.vals))) l.fn.out l.out l.fn.nodes l.nodes

abbrev pub invariant-structs::add_listed-loop-i : goal.invariant-structs::add_listed-loop-i
invariant-structs::add_listed-loop-i g l =
    ToGo g.H.KeyHash.hash_of l.acc (counted 4 (count_written l.def.fields (optionals_list l.vals)) (fields_made (whole g.H.KeyHash.hash_of) l.acc true l.def.fields (optionals_list l.vals))) (fields_made (whole g.H.KeyHash.hash_of) l.acc true (drop l.i l.def.fields) (drop l.i (optionals_list l.vals)))
    (λ μ. fields_weight μ l.acc l.def.fields (optionals_list l.vals)) (λ μ. fields_weight μ l.acc (drop l.i l.def.fields) (drop l.i (optionals_list l.vals))) l.fn.out l.out l.fn.nodes l.nodes

abbrev pub invariant-structs::add_places-loop-place : goal.invariant-structs::add_places-loop-place
invariant-structs::add_places-loop-place g l =
    ToGo g.H.KeyHash.hash_of l.acc (places_made (whole g.H.KeyHash.hash_of) l.acc l.def.fields (optionals_list l.vals) [] (named l.def.fields [] (written_of l.def.fields (optionals_list l.vals) l.places)))
    (places_made (whole g.H.KeyHash.hash_of) l.acc l.def.fields (optionals_list l.vals) [] (named l.def.fields [] (written_of l.def.fields (optionals_list l.vals) (drop l.place-index l.places))))
    (λ μ. places_weight μ l.acc l.def.fields (optionals_list l.vals) (written_of l.def.fields (optionals_list l.vals) l.places))
    (λ μ. places_weight μ l.acc l.def.fields (optionals_list l.vals) (written_of l.def.fields (optionals_list l.vals) (drop l.place-index l.places))) l.fn.out l.out l.fn.nodes l.nodes

abbrev pub decreases-pass::add : goal.decreases-pass::add
decreases-pass::add g l = 8 * height (value_of l.val.now)

abbrev pub decreases-lists::add_list : goal.decreases-lists::add_list
decreases-lists::add_list g l = 8 * values_height l.vals.now + 6

abbrev pub decreases-lists::add_items : goal.decreases-lists::add_items
decreases-lists::add_items g l = 8 * values_height l.vals.now + 5

abbrev pub decreases-maps::add_map : goal.decreases-maps::add_map
decreases-maps::add_map g l = 8 * pairs_height l.pairs.now + 6

abbrev pub decreases-maps::add_pairs : goal.decreases-maps::add_pairs
decreases-maps::add_pairs g l = 8 * pairs_height l.pairs.now + 5

abbrev pub decreases-maps::add_entry : goal.decreases-maps::add_entry
decreases-maps::add_entry g l = 8 * height (value_of l.val.now) + 1

abbrev pub decreases-structs::add_struct : goal.decreases-structs::add_struct
decreases-structs::add_struct g l = 8 * optionals_height l.vals.now + 6

abbrev pub decreases-structs::add_tuple : goal.decreases-structs::add_tuple
decreases-structs::add_tuple g l = 8 * optionals_height l.vals.now + 5

abbrev pub decreases-structs::add_listed : goal.decreases-structs::add_listed
decreases-structs::add_listed g l = 8 * optionals_height l.vals.now + 5

abbrev pub decreases-structs::add_fields : goal.decreases-structs::add_fields
decreases-structs::add_fields g l = 8 * optionals_height l.vals.now + 5

abbrev pub decreases-structs::add_places : goal.decreases-structs::add_places
decreases-structs::add_places g l = 8 * optionals_height l.vals.now + 4

abbrev pub decreases-unions::add_union : goal.decreases-unions::add_union
decreases-unions::add_union g l = 8 * height l.part.now + 6

abbrev pub decreases-unions::add_member : goal.decreases-unions::add_member
decreases-unions::add_member g l = 8 * height l.part.now + 5

abbrev pub decreases-unions::add_wrapped : goal.decreases-unions::add_wrapped
decreases-unions::add_wrapped g l = 8 * height (value_of l.val.now) + 2

abbrev pub decreases-unions::add_inline : goal.decreases-unions::add_inline
decreases-unions::add_inline g l = 8 * height (value_of l.val.now) + 4

abbrev pub decreases-unions::add_prefixed : goal.decreases-unions::add_prefixed
decreases-unions::add_prefixed g l = 8 * height (value_of l.val.now) + 2

abbrev pub decreases-maps::add_hamt : goal.decreases-maps::add_hamt
decreases-maps::add_hamt g l = 8 * pairs_height l.pairs.now + 5

abbrev pub invariant-maps::add_hamt-loop-i : goal.invariant-maps::add_hamt-loop-i
invariant-maps::add_hamt-loop-i g l = MarkedSoFar g.H.KeyHash.hash_of l.acc l.value (take l.i (pairs_list l.pairs)) l.entries l.fn.nodes l.nodes
