use Rattle.std.proofs.Common.{false, true, refl}
use Rattle.std.proofs.lemmas.Result.{err_from_is_err_and}
use Rattle.ild_hamt_climb.proofs.Stopping.{is-long, stopped-way}
use Rattle.ild_hamt_climb.proofs.putting.put_way.Goals as goal

pub returns-clause-puts : goal.returns-clause-puts
returns-clause-puts g c = (
  refl,
  is-long c.args.root c.args.plan.now c.is_long.result c.any_long.result false c.is_long.ensures c.any_long.ensures c.if-long.false,
  c.in_ok-put_all.ensures,
)

pub returns-then-long-clause-puts : goal.returns-then-long-clause-puts
returns-then-long-clause-puts g c = (is-long c.args.root c.args.plan.now c.is_long.result c.any_long.result true c.is_long.ensures c.any_long.ensures c.if-long.true, refl)

pub returns-in_err-put_all-clause-puts : goal.returns-in_err-put_all-clause-puts
returns-in_err-put_all-clause-puts g c =
    let p = err_from_is_err_and c.from_residual.result c.from_residual.ensures.1 in
    rw (p.1, p.2) (stopped-way c.args.root c.args.plan.now _ c.in_err-put_all.field-0.0 _
    (is-long c.args.root c.args.plan.now c.is_long.result c.any_long.result false c.is_long.ensures c.any_long.ensures c.if-long.false) c.in_err-put_all.ensures)
