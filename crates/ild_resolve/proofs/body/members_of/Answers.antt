use Rattle.std.proofs.Common.{ap, ◌∙◌, ◌++◌, ◌∷◌, [], length, arith}
use Rattle.std.proofs.lemmas.Result.{err_from_is_err_and}
use Rattle.ild_resolve.proofs.MembersLeft.{members_left-room, members_left-wrong, members_left-next}
use Rattle.ild_resolve.proofs.body.members_of.Goals as goal

pub member_of-requires : goal.member_of-requires
member_of-requires c =
    let left = rw c.in-Some.ensures.steps.0 at c.loop-part.invariant.2 in
    record { small = members_left-room _ _ _ _ _ _ _ left }

pub returns-in_err-member_of-clause-words : goal.returns-in_err-member_of-clause-words
returns-in_err-member_of-clause-words c =
    let left = rw c.in-Some.ensures.steps.0 at c.loop-part.invariant.2 in
    let p = err_from_is_err_and c.from_residual.result c.from_residual.ensures.1 in
    rw (p.1, p.2) (members_left-wrong _ _ _ _ _ _ _ left _ c.in_err-member_of.ensures.words)

pub loop-part-preserved : goal.loop-part-preserved
loop-part-preserved c =
    let left = rw c.in-Some.ensures.steps.0 at c.loop-part.invariant.2 in
    let pushed = c.in_ok-push.ensures.items ∙ ap (λ f. c.loop-part.made.items ++ f ∷ []) c.in_ok-member_of.ensures.same in
    let count = ap length c.in-Some.ensures.steps.0 in
    (tt, tt, members_left-next _ _ _ _ _ _ _ left _ _ c.in_ok-member_of.ensures.words c.in_ok-member_of.ensures.rows pushed, omega (arith, count, c.in-Some.ensures.steps.1, c.loop-part.invariant.3))
