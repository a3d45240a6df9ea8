use Rattle.std.proofs.Common.{arith, ◌∙◌, ap}
use Rattle.ild_path_pairs.proofs.Walking.{is_gone, is_there, keeps, passes, place_is, starts}
use Rattle.ild_path_pairs.proofs.place.field_seat.Goals as goal
use Rattle.ild_path_pairs.specs.inside.Seats.{is_first, left_behind}
use Rattle.ild_path_steps.proofs.Fielding.{got}
use Rattle.ild_schema.specs.Marks.{field_text}
use Rattle.ild_text.specs.Parts.{pairs_in}

pub loop-i-init : goal.loop-i-init
loop-i-init c = starts c.args.fields.now c.args.number (pairs_in c.args.split)

pub loop-i-preserved-in_default : goal.loop-i-preserved-in_default
loop-i-preserved-in_default c =
    keeps c.args.fields.now c.args.number (pairs_in c.args.split) c.loop-i.i c.loop-i.place (pairs_in c.loop-i.left) c.loop-i.invariant (omega (arith, c.loop-i-test.true)) c.requires c.index-fields-i.result c.index-fields-i.is c.text_of_field-name.result.now
    c.text_of_field-name.ensures c.in_default.ensures

pub overflow_add-place : goal.overflow_add-place
overflow_add-place c = omega (arith, c.loop-i.invariant.few, c.loop-i.invariant.within, c.loop-i-test.true, c.ranges.number)

pub loop-i-preserved : goal.loop-i-preserved
loop-i-preserved c =
    passes c.args.fields.now c.args.number (pairs_in c.args.split) c.loop-i.i c.loop-i.place (pairs_in c.loop-i.left) c.loop-i.invariant (omega (arith, c.loop-i-test.true)) c.requires c.index-fields-i.result c.index-fields-i.is c.text_of_field-name.result.now
    c.text_of_field-name.ensures (pairs_in c.in-Some.next) c.in-Some.ensures

pub returns-in-Some-behind-clause-place : goal.returns-in-Some-behind-clause-place
returns-in-Some-behind-clause-place c =
    place_is c.args.fields.now c.args.number (pairs_in c.args.split) c.loop-i.i c.loop-i.place (pairs_in c.loop-i.left) c.loop-i.invariant (omega (arith, c.loop-i-test.false))

pub returns-in-Some-behind-clause-there : goal.returns-in-Some-behind-clause-there
returns-in-Some-behind-clause-there c = λ g at.
    let name = c.text_of_field.ensures ∙ ap field_text (got c.args.fields.now c.args.number c.index-fields-number.result g at c.index-fields-number.is) in
    is_there c.args.fields.now c.args.number (pairs_in c.args.split) c.loop-i.i c.loop-i.place (pairs_in c.loop-i.left) c.loop-i.invariant (omega (arith, c.loop-i-test.false)) c.text_of_field.result.now (pairs_in c.in-Some-behind.field-0) c.in-Some-behind.ensures
    ∙ ap (λ k. is_first k (left_behind c.args.fields.now c.args.number (pairs_in c.args.split))) name

pub returns-in-None-clause-place : goal.returns-in-None-clause-place
returns-in-None-clause-place c =
    place_is c.args.fields.now c.args.number (pairs_in c.args.split) c.loop-i.i c.loop-i.place (pairs_in c.loop-i.left) c.loop-i.invariant (omega (arith, c.loop-i-test.false))

pub returns-in-None-clause-there : goal.returns-in-None-clause-there
returns-in-None-clause-there c = λ g at.
    let name = c.text_of_field.ensures ∙ ap field_text (got c.args.fields.now c.args.number c.index-fields-number.result g at c.index-fields-number.is) in
    is_gone c.args.fields.now c.args.number (pairs_in c.args.split) c.loop-i.i c.loop-i.place (pairs_in c.loop-i.left) c.loop-i.invariant (omega (arith, c.loop-i-test.false)) c.text_of_field.result.now c.in-None.ensures
    ∙ ap (λ k. is_first k (left_behind c.args.fields.now c.args.number (pairs_in c.args.split))) name
