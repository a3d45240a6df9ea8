use Rattle.std.proofs.Common.{◌<◌, Some, None, arith, refl, drop, subst, ap, length, ◌∙◌}
use Rattle.ild_path_changes.proofs.Lifting.{written_is}
use Rattle.ild_path_changes.specs.Places.{field_data, left_out, written_before}
use Rattle.ild_schema.specs.Marks.{field_text}
use Rattle.ild_path_steps.proofs.Fielding.{field_is}
use Rattle.ild_path_last.proofs.Passing.{ends_gone, ends_there, next, starts}
use Rattle.ild_path_last.proofs.seat.field_seat.Goals as goal
use Rattle.ild_path_last.specs.inside.Seats.{SeatIsBehind}

pub loop-i-init : goal.loop-i-init
loop-i-init c = (omega arith, λ ds es k g made h apart named place. starts k g c.args.fields.now ds es c.args.number c.args.items made h apart named place)

pub loop-i-preserved-in_default : goal.loop-i-preserved-in_default
loop-i-preserved-in_default c =
    let less : c.loop-i.i < c.args.number = omega (arith, c.loop-i-test.true) in
    let within : c.loop-i.i < length c.args.fields.now = omega (arith, less, c.requires) in (
      omega (arith, less),
      λ ds es k g made h apart named place.
          let all = c.args.fields.now in
          next k g (written_before left_out k all ds) c.args.number (field_data k all ds) all ds c.loop-i.i c.loop-i.place c.loop-i.left c.index-fields-i.result c.text_of_field-name.result.now None (c.loop-i.invariant.1 ds es k g made h apart named place) less within
          (written_is all ds es made).count c.index-fields-i.is c.text_of_field-name.ensures c.in_default.ensures,
    )

pub loop-i-preserved : goal.loop-i-preserved
loop-i-preserved c =
    let less : c.loop-i.i < c.args.number = omega (arith, c.loop-i-test.true) in
    let within : c.loop-i.i < length c.args.fields.now = omega (arith, less, c.requires) in (
      omega (arith, less),
      λ ds es k g made h apart named place.
          let all = c.args.fields.now in
          next k g (written_before left_out k all ds) c.args.number (field_data k all ds) all ds c.loop-i.i c.loop-i.place c.loop-i.left c.index-fields-i.result c.text_of_field-name.result.now (Some c.in-Some.next) (c.loop-i.invariant.1 ds es k g made h apart named place) less within
          (written_is all ds es made).count c.index-fields-i.is c.text_of_field-name.ensures c.in-Some.ensures _ c.saturating_add-place.ensures,
    )

pub returns-in-Some-behind : goal.returns-in-Some-behind
returns-in-Some-behind c = λ ds es k g made h apart named place.
    let all = c.args.fields.now in
    let name = c.text_of_field.ensures ∙ ap field_text (field_is all all k c.args.number c.index-fields-number.result g refl c.index-fields-number.is place named) in
    ends_there k g (written_before left_out k all ds) c.args.number (field_data k all ds) (drop c.loop-i.i all) (drop c.loop-i.i ds) c.loop-i.i c.loop-i.place c.loop-i.left c.in-Some-behind.field-0 (c.loop-i.invariant.1 ds es k g made h apart named place) (omega (arith, c.loop-i-test.false))
    (λ ys at. subst (λ n. SeatIsBehind n ys (Some c.in-Some-behind.field-0)) name (c.in-Some-behind.ensures ys at))

pub returns-in-None : goal.returns-in-None
returns-in-None c = λ ds es k g made h apart named place.
    let all = c.args.fields.now in
    let name = c.text_of_field.ensures ∙ ap field_text (field_is all all k c.args.number c.index-fields-number.result g refl c.index-fields-number.is place named) in
    ends_gone k g (written_before left_out k all ds) c.args.number (field_data k all ds) (drop c.loop-i.i all) (drop c.loop-i.i ds) c.loop-i.i c.loop-i.place c.loop-i.left (c.loop-i.invariant.1 ds es k g made h apart named place) (omega (arith, c.loop-i-test.false))
    (λ ys at. subst (λ n. SeatIsBehind n ys None) name (c.in-None.ensures ys at))
