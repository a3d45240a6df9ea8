use Rattle.std.proofs.Common.{ap, ◌∙◌, ◌++◌, ◌∷◌, [], length, arith}
use Rattle.std.proofs.lemmas.Result.{err_from_is_err_and}
use Rattle.ild_resolve.proofs.FieldsLeft.{fields_left-room, fields_left-wrong, fields_left-next}
use Rattle.ild_resolve.proofs.body.fields_of.Goals as goal

pub field_of-requires : goal.field_of-requires
field_of-requires c =
    let left = rw c.in-Some.ensures.steps.0 at c.loop-part.invariant.2 in
    record { small = fields_left-room _ _ _ _ _ _ _ left }

pub returns-in_err-field_of-clause-words : goal.returns-in_err-field_of-clause-words
returns-in_err-field_of-clause-words c =
    let left = rw c.in-Some.ensures.steps.0 at c.loop-part.invariant.2 in
    let p = err_from_is_err_and c.from_residual.result c.from_residual.ensures.1 in
    rw (p.1, p.2) (fields_left-wrong _ _ _ _ _ _ _ left _ c.in_err-field_of.ensures.words)

pub loop-part-preserved : goal.loop-part-preserved
loop-part-preserved c =
    let left = rw c.in-Some.ensures.steps.0 at c.loop-part.invariant.2 in
    let pushed = c.in_ok-push.ensures.items ∙ ap (λ f. c.loop-part.made.items ++ f ∷ []) c.in_ok-field_of.ensures.same in
    let count = ap length c.in-Some.ensures.steps.0 in
    (tt, tt, fields_left-next _ _ _ _ _ _ _ left _ _ c.in_ok-field_of.ensures.words c.in_ok-field_of.ensures.rows pushed, omega (arith, count, c.in-Some.ensures.steps.1, c.loop-part.invariant.3))
