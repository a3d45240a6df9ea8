use Rattle.std.proofs.Common.{sym, arith}
use Rattle.ild_schema.specs.Value.{values_list, pairs_list, optionals_list}
use Rattle.ild_schema.specs.ValueSeen.{value_of, pair_of, optional_of}
use Rattle.ild_value_shown.proofs.Fronts.{front_more, front_less, front_all, same_values, same_pairs, same_optionals}
use Rattle.ild_value_shown.proofs.Heights.{element_height, entry_height, optional_height}
use Rattle.ild_value_shown.proofs.copying.+copy.Goals as goal

pub copy_elements-copy-requires : goal.copy_elements-copy-requires
copy_elements-copy-requires t c =
    let h = element_height c.args.vals.now c.len.result (value_of c.in-Some.val.now) (sym c.in-Some.ensures) in
    (omega arith, tt)

pub copy_elements-loop-val-preserved : goal.copy_elements-loop-val-preserved
copy_elements-loop-val-preserved t c =
    front_more (values_list c.args.vals.now) (values_list c.loop-val.copies) (values_list c.push.new.self) c.len.result (value_of c.in-Some.val.now) (value_of c.in_ok-copy.field-0)
    c.loop-val.invariant c.len.ensures c.in-Some.ensures c.in_ok-copy.ensures c.in_ok-push.ensures.ok

pub copy_elements-loop-val-smaller : goal.copy_elements-loop-val-smaller
copy_elements-loop-val-smaller t c =
    let h = front_less (values_list c.args.vals.now) (values_list c.loop-val.copies) (values_list c.push.new.self) c.len.result (value_of c.in-Some.val.now) (value_of c.in_ok-copy.field-0)
    c.len.ensures c.in-Some.ensures c.in_ok-push.ensures.ok in
    omega arith

pub copy_elements-returns : goal.copy_elements-returns
copy_elements-returns t c =
    same_values c.loop-val.copies c.args.vals.now (front_all (values_list c.args.vals.now) (values_list c.loop-val.copies) c.len.result c.loop-val.invariant c.len.ensures c.in_default.ensures)

pub copy_entries-copy-requires-in-Some : goal.copy_entries-copy-requires-in-Some
copy_entries-copy-requires-in-Some t c =
    let h = entry_height c.args.pairs.now c.len.result (pair_of c.in-Some.pair.now) (sym c.in-Some.ensures) in
    (omega arith, tt)

pub copy_entries-loop-pair-preserved : goal.copy_entries-loop-pair-preserved
copy_entries-loop-pair-preserved t c =
    front_more (pairs_list c.args.pairs.now) (pairs_list c.loop-pair.copies) (pairs_list c.push.new.self) c.len.result (pair_of c.in-Some.pair.now) (c.in_ok-key.key, value_of c.in_ok-val.val)
    c.loop-pair.invariant c.len.ensures c.in-Some.ensures (λ i. (c.in_ok-key.ensures i, c.in_ok-val.ensures i)) c.in_ok-push.ensures.ok

pub copy_entries-loop-pair-smaller : goal.copy_entries-loop-pair-smaller
copy_entries-loop-pair-smaller t c =
    let h = front_less (pairs_list c.args.pairs.now) (pairs_list c.loop-pair.copies) (pairs_list c.push.new.self) c.len.result (pair_of c.in-Some.pair.now) (c.in_ok-key.key, value_of c.in_ok-val.val)
    c.len.ensures c.in-Some.ensures c.in_ok-push.ensures.ok in
    omega arith

pub copy_entries-returns : goal.copy_entries-returns
copy_entries-returns t c =
    same_pairs c.loop-pair.copies c.args.pairs.now (front_all (pairs_list c.args.pairs.now) (pairs_list c.loop-pair.copies) c.len.result c.loop-pair.invariant c.len.ensures c.in_default.ensures)

pub copy_fields-copy_field-requires : goal.copy_fields-copy_field-requires
copy_fields-copy_field-requires t c =
    let h = optional_height c.args.fields.now c.len.result (optional_of c.in-Some.field.now) (sym c.in-Some.ensures) in
    (omega arith, tt)

pub copy_fields-loop-field-preserved : goal.copy_fields-loop-field-preserved
copy_fields-loop-field-preserved t c =
    front_more (optionals_list c.args.fields.now) (optionals_list c.loop-field.copies) (optionals_list c.push.new.self) c.len.result (optional_of c.in-Some.field.now) (optional_of c.in_ok-copy_field.field-0)
    c.loop-field.invariant c.len.ensures c.in-Some.ensures c.in_ok-copy_field.ensures c.in_ok-push.ensures.ok

pub copy_fields-loop-field-smaller : goal.copy_fields-loop-field-smaller
copy_fields-loop-field-smaller t c =
    let h = front_less (optionals_list c.args.fields.now) (optionals_list c.loop-field.copies) (optionals_list c.push.new.self) c.len.result (optional_of c.in-Some.field.now) (optional_of c.in_ok-copy_field.field-0)
    c.len.ensures c.in-Some.ensures c.in_ok-push.ensures.ok in
    omega arith

pub copy_fields-returns : goal.copy_fields-returns
copy_fields-returns t c =
    same_optionals c.loop-field.copies c.args.fields.now (front_all (optionals_list c.args.fields.now) (optionals_list c.loop-field.copies) c.len.result c.loop-field.invariant c.len.ensures c.in_default.ensures)
