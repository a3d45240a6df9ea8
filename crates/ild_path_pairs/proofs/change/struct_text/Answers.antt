use Rattle.std.proofs.Common.{◌∙◌, ap, refl, subst}
use Rattle.std.specs.Prelude.{option_map, slice_get}
use Rattle.ild_data.specs.Data as T
use Rattle.ild_path_changes.specs.Places.{left_out, written}
use Rattle.ild_path_pairs.proofs.Placing.{struct_told}
use Rattle.ild_path_pairs.proofs.change.struct_text.Goals as goal
use Rattle.ild_path_pairs.specs.Pairs.{TellsPair, borrowed_text}
use Rattle.ild_path_steps.proofs.Fielding.{field_is, numbered}
use Rattle.ild_schema.specs.Marks.{field_text}
use Rattle.ild_text.specs.Parts.{pairs_in}

pub returns-in-Some : goal.returns-in-Some
returns-in-Some c = λ ds es fresh k g made was apart named place anew.
    let j = c.args.joined.now in
    let fs = c.args.fields.now in
    let seat = c.field_seat-seat in
    let d = option_map T.text (borrowed_text c.args.new) in
    let field = field_is fs fs k c.args.number c.index-fields-number.result g refl c.index-fields-number.is place named in
    let at = ap (slice_get fs) place ∙ numbered k fs g named in
    let new = c.written.ensures ∙ ap (λ x. written left_out x d) field in
    struct_told j.inner.now j.entry.now j.text.now seat.result c.with_pair.result fs c.args.number ds es fresh (pairs_in c.in-Some.split) k c.text_of_field.result.now g d (c.in-Some.ensures es was) seat.ensures.place (seat.ensures.there g at) made was apart named place
    anew (c.text_of_field.ensures ∙ ap field_text field) (subst (λ x. TellsPair j.inner.now j.entry.now j.text.now seat.result c.text_of_field.result.now x c.with_pair.result) new c.with_pair.ensures)
