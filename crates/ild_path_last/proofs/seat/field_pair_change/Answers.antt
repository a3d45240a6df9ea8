use Rattle.std.proofs.Common.{◌∙◌, sym, ap, refl}
use Rattle.ild_typed.specs.Strings.{listpairs}
use Rattle.ild_schema.specs.Marks.{field_text}
use Rattle.ild_path_steps.proofs.Fielding.{field_is}
use Rattle.ild_path_changes.specs.Pairs.{at_pair}
use Rattle.ild_path_changes.specs.Places.{field_data, left_out, written}
use Rattle.ild_path_steps.proofs.Pairing.{pairs_in}
use Rattle.ild_path_last.proofs.seat.field_pair_change.Goals as goal

pub returns-in-Some : goal.returns-in-Some
returns-in-Some c = λ rows ds es k g d x u made stands apart named place after shown.
    let seat = c.field_seat-seat.ensures ds es k g made (pairs_in es c.in-Some.items (c.in-Some.ensures rows (listpairs es) stands)) apart named place in
    let field = field_is _ c.args.fields.now k c.args.number c.index-fields-number.result g refl c.index-fields-number.is place named in
    let name = c.text_of_field-name.ensures ∙ ap field_text field in
    (λ i. at_pair (sym seat.place_is i) (sym name i) (written left_out g (field_data k c.args.fields.now ds)) (written left_out g d)) ∙ c.pair_change.ensures _ _ x u seat.there_is after shown
