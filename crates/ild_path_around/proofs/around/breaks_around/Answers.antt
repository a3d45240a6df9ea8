use Rattle.std.proofs.Common.{◌∙◌, ap, sym}
use Rattle.ild_path_around.specs.Around.{text_edit_of}
use Rattle.ild_path_around.proofs.Told.{coming_inside, coming_none, coming_outside, going_inside, going_outside}
use Rattle.ild_path_around.proofs.around.breaks_around.Goals as goal

pub returns-in_default-clause-coming : goal.returns-in_default-clause-coming
returns-in_default-clause-coming c =
    let place = c.args.place.now in
    let text = c.args.text in
    coming_none place text c.textless_parts_break_nothing.ensures.nothing c.only_texts_break.ensures.breaks (sym (c.text_edit.ensures ∙ ap (λ v. text_edit_of v text) c.verb.ensures) ∙ c.in_default.is)

pub returns-in-InBlock-clause-coming : goal.returns-in-InBlock-clause-coming
returns-in-InBlock-clause-coming c =
    let place = c.args.place.now in
    let text = c.args.text in
    let asks = sym (c.text_edit.ensures ∙ ap (λ v. text_edit_of v text) c.verb.ensures) ∙ c.in-Some.is in
    coming_inside place text c.only_texts_break.ensures.breaks c.in-InBlock.path c.in-Some.edit c.in_block.result asks (sym c.end.ensures ∙ c.in-InBlock.is) c.in_block.ensures

pub returns-in-InBlock-clause-going : goal.returns-in-InBlock-clause-going
returns-in-InBlock-clause-going c =
    let place = c.args.place.now in
    let text = c.args.text in
    let asks = sym (c.text_edit.ensures ∙ ap (λ v. text_edit_of v text) c.verb.ensures) ∙ c.in-Some.is in
    going_inside place text c.only_texts_break.ensures.breaks c.in-InBlock.path c.in-Some.edit c.in_block.result asks (sym c.end.ensures ∙ c.in-InBlock.is) c.in_block.ensures

pub returns-in-Whole-clause-coming : goal.returns-in-Whole-clause-coming
returns-in-Whole-clause-coming c = coming_outside c.args.place.now c.args.text c.only_texts_break.ensures.breaks _ (sym c.end.ensures ∙ c.in-Whole.is) tt

pub returns-in-Whole-clause-going : goal.returns-in-Whole-clause-going
returns-in-Whole-clause-going c = going_outside c.args.place.now c.args.text c.only_texts_break.ensures.breaks _ (sym c.end.ensures ∙ c.in-Whole.is) tt

pub returns-in-AtKey-clause-coming : goal.returns-in-AtKey-clause-coming
returns-in-AtKey-clause-coming c = coming_outside c.args.place.now c.args.text c.only_texts_break.ensures.breaks _ (sym c.end.ensures ∙ c.in-AtKey.is) tt

pub returns-in-AtKey-clause-going : goal.returns-in-AtKey-clause-going
returns-in-AtKey-clause-going c = going_outside c.args.place.now c.args.text c.only_texts_break.ensures.breaks _ (sym c.end.ensures ∙ c.in-AtKey.is) tt
