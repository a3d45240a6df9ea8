use Rattle.std.proofs.Common.{◌+◌, ◌*◌, ◌≤◌, drop, string_bytes}
use Rattle.ild_schema.specs.Value.{height, pairs_height, optionals_height, optionals_list, pairs_list}
use Rattle.ild_schema.specs.ValueSeen.{value_of}
use Rattle.ild_build.specs.inside.TextParts.{field_texts, field_pairs, entry_texts}
use Rattle.ild_build.proofs.Texting.{Joining, Pairing}
use Rattle.ild_build.proofs.text.+text.Given as goal

abbrev pub decreases-add_text : goal.decreases-add_text
decreases-add_text l = 4 * height (value_of l.val.now)

abbrev pub decreases-add_joined : goal.decreases-add_joined
decreases-add_joined l = 4 * optionals_height l.vals.now + 3

abbrev pub decreases-add_pair : goal.decreases-add_pair
decreases-add_pair l = 4 * height (value_of l.val.now) + 1

abbrev pub decreases-add_fields : goal.decreases-add_fields
decreases-add_fields l = 4 * optionals_height l.vals.now + 3

abbrev pub decreases-add_entries : goal.decreases-add_entries
decreases-add_entries l = 4 * pairs_height l.pairs.now + 3

abbrev pub decreases-add_member : goal.decreases-add_member
decreases-add_member l = 4 * height l.part.now + 3

abbrev pub invariant-add_joined-loop-i : goal.invariant-add_joined-loop-i
invariant-add_joined-loop-i l =
    Joining (field_texts l.acc l.def.fields (optionals_list l.vals)) (field_texts l.acc (drop l.i l.def.fields) (drop l.i (optionals_list l.vals))) l.delim (string_bytes l.initial.out) (string_bytes l.out) l.i

abbrev pub invariant-add_fields-loop-i : goal.invariant-add_fields-loop-i
invariant-add_fields-loop-i l = record {
  pairs : Pairing (field_pairs l.acc l.def.fields (optionals_list l.vals)) (field_pairs l.acc (drop l.i l.def.fields) (drop l.i (optionals_list l.vals))) l.delims.inner.now l.delims.entry.now
      (string_bytes l.initial.out) (string_bytes l.out) l.count;
  few : l.count ≤ l.i;
}

abbrev pub invariant-add_entries-loop-i : goal.invariant-add_entries-loop-i
invariant-add_entries-loop-i l =
    Pairing (entry_texts l.acc l.value (pairs_list l.pairs)) (entry_texts l.acc l.value (drop l.i (pairs_list l.pairs))) l.delims.inner.now l.delims.entry.now (string_bytes l.initial.out) (string_bytes l.out) l.i
