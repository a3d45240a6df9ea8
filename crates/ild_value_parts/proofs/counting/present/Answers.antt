use Rattle.std.proofs.Common.{suc, ◌+◌, ◌<◌, subst, [], length, drop, sym, ap, ◌∙◌, add-one}
use Rattle.ild_data.proofs.Gets.{there_at, drop_past}
use Rattle.ild_schema.specs.Value.{optionals_list}
use Rattle.ild_script_meaning.specs.Reads.{present_fields}
use Rattle.ild_schema.specs.ValueSeen.{value_of}
use Rattle.ild_value_shown.proofs.Forms.{absent_next, present_next, present_shown}
use Rattle.ild_value_parts.proofs.Lists.{fields_count, next_count, plus_none, present_most, stays_exact, zero_plus}
use Rattle.ild_value_parts.proofs.counting.present.Goals as goal

pub loop-i-init : goal.loop-i-init
loop-i-init c =
    (subst (λ n. n < 18446744073709551616) c.len-most.ensures c.len-most.type_inv, sym (zero_plus (length (present_shown [] c.args.fields.now (optionals_list c.args.vals.now)))) ∙ sym (fields_count [] c.args.fields.now (optionals_list c.args.vals.now)))

pub loop-i-preserved-in_default : goal.loop-i-preserved-in_default
loop-i-preserved-in_default c =
    (c.loop-i.invariant.0, rw add-one (ap (λ ds. c.loop-i.count + length ds) (sym (absent_next [] c.args.fields.now (optionals_list c.args.vals.now) c.loop-i.i c.in_default.ensures)) ∙ c.loop-i.invariant.1))

pub loop-i-preserved : goal.loop-i-preserved
loop-i-preserved c =
    let fs = c.args.fields.now in
    let os = optionals_list c.args.vals.now in
    let f = there_at fs c.loop-i.i c.loop-i-test.true in
    let next = present_next [] fs os c.loop-i.i f.0 (value_of c.in-Some.field-0.now) f.1 c.in-Some.ensures in
    let rest = present_shown [] (drop (suc c.loop-i.i) fs) (drop (suc c.loop-i.i) os) in
    let adds = sym (ap (λ ds. c.loop-i.count + length ds) next) ∙ c.loop-i.invariant.1 in
    let exact = stays_exact c.loop-i.count (length rest) (length (present_fields fs os)) (length os) c.saturating_add-count.result c.saturating_add-count.ensures adds
    (present_most fs os) c.loop-i.invariant.0 in
    (c.loop-i.invariant.0, rw add-one (next_count c.loop-i.count (length rest) c.saturating_add-count.result exact ∙ adds))

pub returns : goal.returns
returns c =
    let os = optionals_list c.args.vals.now in
    plus_none c.loop-i.count ∙ ap (λ fs. c.loop-i.count + length (present_shown [] fs (drop c.loop-i.i os))) (sym (drop_past c.args.fields.now c.loop-i.i c.loop-i-test.false)) ∙ c.loop-i.invariant.1
