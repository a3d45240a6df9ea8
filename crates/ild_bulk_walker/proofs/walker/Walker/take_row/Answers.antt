use Rattle.std.proofs.lemmas.Result.{err_from_is_err_and}
use Rattle.ild_bulk_walker.proofs.Passing.{taken-row-of, takes-none}
use Rattle.ild_bulk_walker.proofs.walker.Walker.take_row.Goals as goal

pub returns-in_err-pass_step-clause-takes : goal.returns-in_err-pass_step-clause-takes
returns-in_err-pass_step-clause-takes c =
    let p = err_from_is_err_and c.from_residual-in_err-pass_step.result c.from_residual-in_err-pass_step.ensures.1 in
    rw (p.1, p.2) (takes-none c.args.self.now c.pass_step.new.self c.in_err-pass_step.field-0.0 c.in_err-pass_step.ensures.passes)

pub returns-clause-takes : goal.returns-clause-takes
returns-clause-takes c = taken-row-of c.args.self.now c.pass_step.new.self c.in_ok-row.row c.in_ok-row.ensures c.in_ok-pass_step.ensures.passes
