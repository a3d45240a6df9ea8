use Rattle.std.proofs.Common.{Some, ◌∙◌, sym, ap}
use Rattle.ild_bulk_walker.specs.Steps.{entry_key, entry_value}
use Rattle.ild_bulk_walker.specs.declared.step.Step.TheVariants.{Give, Enter, Leave}
use Rattle.ild_bulk_walker.proofs.Walking.{next-todo}
use Rattle.ild_bulk_walker.proofs.walker.Walker.due.Goals as goal

pub returns-in-Some-Give : goal.returns-in-Some-Give
returns-in-Some-Give c =
    let e = c.in-Some-Give.field-0-0 in
    let n = next-todo c.args.self.now.steps.items c.deref.result.now (Give e) c.deref.ensures.value (sym c.in-Some-Give.ensures.value ∙ ap Some c.in-Some-Give.field-0-is) in
    (entry_key e, entry_value e, e.index, n.0, n.1)

pub returns-in-Some-Enter : goal.returns-in-Some-Enter
returns-in-Some-Enter c = next-todo c.args.self.now.steps.items c.deref.result.now (Enter c.in-Some-Enter.child) c.deref.ensures.value (sym c.in-Some-Enter.ensures.value ∙ ap Some c.in-Some-Enter.field-0-is)

pub returns-in-Some-Leave : goal.returns-in-Some-Leave
returns-in-Some-Leave c = next-todo c.args.self.now.steps.items c.deref.result.now (Leave c.in-Some-Leave.before) c.deref.ensures.value (sym c.in-Some-Leave.ensures.value ∙ ap Some c.in-Some-Leave.field-0-is)
