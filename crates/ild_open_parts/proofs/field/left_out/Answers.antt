use Rattle.std.proofs.Common.{ap, sym, subst, true}
use Rattle.std.specs.Prelude.{Err, is_some}
use Rattle.std.proofs.Math.Bool.{Bool-set}
use Rattle.std.proofs.Math.Logic.{∥∥₁_elim}
use Rattle.std.proofs.lemmas.Result.{err_from_is_err_and}
use Rattle.ild_open_parts.specs.Fields.{LeftOut}
use Rattle.ild_open_parts.proofs.Lacking.{absent_left, implied_left, implied_some, is_absent, never_out, wanting_left}
use Rattle.ild_open_parts.proofs.field.left_out.Goals as goal

pub returns-in-Absent : goal.returns-in-Absent
returns-in-Absent c = absent_left c.args.field.now c.args.part.now c.in-Absent.is

pub returns-in_ok-implied-in-Implicit : goal.returns-in_ok-implied-in-Implicit
returns-in_ok-implied-in-Implicit c = implied_left c.args.field.now c.args.part.now c.in-Implicit.is c.in_ok-implied-in-Implicit.field-0 c.in_ok-implied-in-Implicit.ensures.ok

pub returns-in_err-implied-in-Implicit : goal.returns-in_err-implied-in-Implicit
returns-in_err-implied-in-Implicit c =
    let p = err_from_is_err_and c.from_residual.result c.from_residual.ensures.1 in
    rw (p.1, p.2) (subst (λ e. LeftOut c.args.field.now c.args.part.now (Err e)) (sym c.in_err-implied-in-Implicit.ensures.err) (wanting_left c.args.field.now c.args.part.now (ap is_absent c.in-Implicit.is)))

pub unreachable-requires : goal.unreachable-requires
unreachable-requires c = never_out c.args.part.now c.in-Null.is c.requires.out

pub implied-requires : goal.implied-requires
implied-requires c = ∥∥₁_elim c.requires.handed (Bool-set (is_some c.args.field.now.implicit) true) (λ x. implied_some c.args.field.now c.args.part.now c.in-Implicit.is x)
