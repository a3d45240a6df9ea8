use Rattle.std.proofs.Common.{sym, ◌∙◌}
use Rattle.ild_layer_fields.proofs.Placing.{implicit_there, implicit_none}
use Rattle.ild_layer_fields.proofs.fields.is_implicit_at.Goals as goal

pub returns-in-Some : goal.returns-in-Some
returns-in-Some c = λ rows t h.
    let found = c.in-Some.ensures.lookup in
    c.is_implicit.ensures rows t h ∙ sym (implicit_there c.args.fields.now c.args.place c.in-Some.field.now t found.3.0 found.1)

pub returns-in-None : goal.returns-in-None
returns-in-None c = λ rows t h. sym (implicit_none c.args.fields.now c.args.place t c.in-None.ensures.lookup.3)
