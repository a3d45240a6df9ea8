use Rattle.std.proofs.Common.{◌≡◌, ◌++◌, ◌-◌, Bool, true, cond, set, refl, ap, ◌∙◌, arith, rules}
use Rattle.std.specs.Prelude.{is_ok}
use Rattle.ild_bulk_walker.specs.Todo.{enter}
use Rattle.ild_bulk_walker.specs.declared.step.Step.TheVariants.{Leave}
use Rattle.ild_bulk_walker.proofs.Walking.{opened, some-step}
use Rattle.ild_bulk_walker.proofs.walker.Walker.open.Goals as goal

pub returns-clause-opens : goal.returns-clause-opens
returns-clause-opens c =
    let v = c.args.self.now in
    let ok : is_ok c.append.result ≡ true = search rules in
    let some = some-step v (enter c.args.child.id.0 c.args.child.index) c.requires in
    opened v _ c.args.child c.args.steps.items (c.len-before.result - 1) c.requires
    (ap (λ xs. set xs (c.len-before.result - 1) (Leave v.given)) (c.append.ensures.items ∙ ap (λ (b : Bool). cond b (v.steps.items ++ c.args.steps.items) v.steps.items) ok))
    (omega (arith, some, c.len-before.ensures)) c.in_ok-push.ensures.items refl refl
