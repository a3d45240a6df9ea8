use Rattle.std.proofs.Common.{Some, sym, ap, ◌∙◌}
use Rattle.ild_bulk_walker.specs.declared.step.Step.TheVariants.{Give}
use Rattle.ild_bulk_walker.proofs.Passing.{next-row-of}
use Rattle.ild_bulk_walker.proofs.Walking.{next-todo}
use Rattle.ild_bulk_walker.proofs.walker.Walker.next_row.Goals as goal

pub returns : goal.returns
returns c =
    let e = c.in-Some-Give.entry in
    let n = next-todo c.args.self.now.steps.items c.deref.result.now (Give e) c.deref.ensures.value (sym c.in-Some-Give.ensures.value ∙ ap Some c.in-Some-Give.field-0-is) in
    next-row-of c.args.self.now e c.here.result.0 n.0 n.1 c.here.ensures c.row.result c.row.ensures
