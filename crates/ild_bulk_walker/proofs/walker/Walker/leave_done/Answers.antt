use Rattle.std.proofs.Common.{◌∙◌}
use Rattle.std.specs.Prelude.{Ok, Err}
use Rattle.std.proofs.lemmas.Result.{err_from_is_err_and}
use Rattle.ild_bulk_walker.proofs.Walking.{left-more}
use Rattle.ild_bulk_walker.proofs.Shaped.{leaves-at}
use Rattle.ild_bulk_walker.proofs.walker.Walker.leave_done.Goals as goal

pub loop-before-preserved : goal.loop-before-preserved
loop-before-preserved c = (
  left-more c.args.self.now.shape c.args.self.now c.loop-before.self c.leave.new.self (Ok tt) c.loop-before.invariant.0 (leaves-at c.loop-before.invariant.1 c.in_ok-leave.ensures.leaves),
  c.in_ok-leave.ensures.shape ∙ c.loop-before.invariant.1,
)

pub returns-in_err-leave-clause-left : goal.returns-in_err-leave-clause-left
returns-in_err-leave-clause-left c =
    let p = err_from_is_err_and c.from_residual.result c.from_residual.ensures.1 in
    rw (p.1, p.2) (left-more c.args.self.now.shape c.args.self.now c.loop-before.self c.leave.new.self (Err c.in_err-leave.field-0.0) c.loop-before.invariant.0 (leaves-at c.loop-before.invariant.1 c.in_err-leave.ensures.leaves))

pub returns-in_err-leave-clause-shape : goal.returns-in_err-leave-clause-shape
returns-in_err-leave-clause-shape c = c.in_err-leave.ensures.shape ∙ c.loop-before.invariant.1
