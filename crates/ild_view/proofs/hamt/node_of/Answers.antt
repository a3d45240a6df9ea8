use Rattle.std.proofs.Common.{◌≡◌, false, true, ◌∙◌, ap, subst}
use Rattle.ild_view.specs.Body.{BodyStands}
use Rattle.ild_view.specs.declared.body.Body.{Body}
use Rattle.ild_view.specs.declared.body.Body.TheVariants as B
use Rattle.ild_view.proofs.hamt.node_of.Goals as goal

pub returns-in-Ok : goal.returns-in-Ok
returns-in-Ok c = λ rows slots t free stands root.
    let x = c.in-Ok.ensures.found t (subst (λ (b : Body). BodyStands rows b t) (c.in-Held.is ∙ ap B.Held c.in-Node.is) stands) in
    (x.0, x.1, x.2)

pub returns-in-Err : goal.returns-in-Err
returns-in-Err c = λ rows slots t free stands root.
    let e : false ≡ true = (c.in-Err.ensures.only slots t (subst (λ (b : Body). BodyStands rows b t) (c.in-Held.is ∙ ap B.Held c.in-Node.is) stands) root).0 in
    absurd cc
