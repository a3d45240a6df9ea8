use Rattle.std.proofs.Common.{Some, sym, ◌∙◌, subst}
use Rattle.std.proofs.lemmas.Option.{same_Some}
use Rattle.ild_path_item.proofs.Rewriting.{told_so}
use Rattle.ild_path_item.proofs.member.member_item.Goals as goal
use Rattle.ild_path_item.specs.inside.Rewrites.{Rewrites}
use Rattle.ild_path_last.specs.Change.{NewIs}
use Rattle.ild_typed.specs.Composed.{union_form}

pub returns-in-Some-Some : goal.returns-in-Some-Some
returns-in-Some-Some c = λ k x numbered new.
    let u = c.args.union.now in
    let same = same_Some c.in-Some-Some.number k (sym c.in-Some-Some.is-0 ∙ numbered) in
    subst (λ n. Rewrites (union_form u.form u.members (n, x)) c.marked.result) same
    (told_so (union_form u.form u.members (c.in-Some-Some.number, x)) c.marked.result (c.marked.ensures x (subst (λ o. NewIs o (Some x)) c.in-Some-Some.is-1 new)))
