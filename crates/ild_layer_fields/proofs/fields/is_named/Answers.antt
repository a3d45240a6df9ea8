use Rattle.std.proofs.Common.{sym, ◌∙◌, ap}
use Rattle.ild_data.specs.Key.{same_text}
use Rattle.ild_layer_fields.proofs.Placing.{guessed}
use Rattle.ild_layer_fields.proofs.fields.is_named.Goals as goal

pub returns-in-Some-clause-place : goal.returns-in-Some-clause-place
returns-in-Some-clause-place c = λ same apart.
    let found = c.in-Some.ensures.lookup in
    guessed c.args.fields.now c.args.place c.in-Some.field.now c.args.name.now found.3.0 found.1
    (ap (λ t. same_text t c.args.name.now) (sym c.text_of_field.ensures) ∙ sym c.eq.ensures ∙ same) apart
