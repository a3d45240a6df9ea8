use Rattle.std.proofs.Common.{◌∷◌}
use Rattle.std.proofs.lemmas.Result.{err_from_is_err_and}
use Rattle.ild_resolve.specs.inside.Numbers.{number_in}
use Rattle.ild_resolve.specs.Events.{uses, reference_events, map_form_events}
use Rattle.ild_resolve.proofs.Words.{right-both, wrong-first, wrong-next}
use Rattle.ild_resolve.proofs.body.map_def.Goals as goal

pub returns-in_err-key_no-clause-words : goal.returns-in_err-key_no-clause-words
returns-in_err-key_no-clause-words c =
    let p = err_from_is_err_and c.from_residual.result c.from_residual.ensures.1 in
    let before = uses c.args.key.now ∷ reference_events c.args.value.now in
    rw (p.1, p.2) (wrong-first (number_in c.args.numbers.now) before (map_form_events c.args.form) c.in_err-key_no.field-0.0 c.in_err-key_no.ensures.words)

pub returns-in_err-form-clause-words : goal.returns-in_err-form-clause-words
returns-in_err-form-clause-words c =
    let p = err_from_is_err_and c.from_residual-in_err-form.result c.from_residual-in_err-form.ensures.1 in
    let before = uses c.args.key.now ∷ reference_events c.args.value.now in
    let wrong = c.in_err-form.ensures.words (number_in c.args.numbers.now) in
    rw (p.1, p.2) (wrong-next (number_in c.args.numbers.now) before (map_form_events c.args.form) c.in_err-form.field-0.0 c.in_ok-key_no.ensures.words wrong)

pub returns-clause-words : goal.returns-clause-words
returns-clause-words c =
    let before = uses c.args.key.now ∷ reference_events c.args.value.now in
    let right = c.in_ok-form.ensures.words (number_in c.args.numbers.now) in
    right-both (number_in c.args.numbers.now) before (map_form_events c.args.form) c.in_ok-key_no.ensures.words right
