use Rattle.std.proofs.Common.{ℕ, List, Err, subst}
use Rattle.std.proofs.lemmas.Result.{err_from_is_err_and}
use Rattle.ild_run.specs.Opening.{CompileAnswer}
use Rattle.ild_run.proofs.Pairings.{opens_untaken, opens_uncompiled, opens_types}
use Rattle.ild_run.proofs.open.plan_pair.Goals as goal

pub returns-in_err-bytes : goal.returns-in_err-bytes
returns-in_err-bytes g c =
    let p = err_from_is_err_and c.from_residual.result c.from_residual.ensures.1 in
    rw (p.1, p.2) (opens_untaken (g.I.Inputs.supply c.args.inputs.now) (g.I.Inputs.supply c.take_input.new.inputs) c.args.schema c.args.next.now c.args.ty.now c.in_err-bytes.field-0.0 c.in_err-bytes.ensures)

pub returns-in_err-later : goal.returns-in_err-later
returns-in_err-later g c =
    let p = err_from_is_err_and c.from_residual-in_err-later.result c.from_residual-in_err-later.ensures.1 in
    let answer = subst (λ (b : List ℕ). CompileAnswer b (Err c.in_err-later.field-0.0)) c.as_slice.ensures.same c.in_err-later.ensures in
    rw (p.1, p.2) (opens_uncompiled (g.I.Inputs.supply c.args.inputs.now) (g.I.Inputs.supply c.take_input.new.inputs) c.args.schema c.args.next.now c.args.ty.now c.in_ok-bytes.bytes c.in_err-later.field-0.0 c.in_ok-bytes.ensures answer)

pub returns : goal.returns
returns g c =
    let compiled = rw c.as_slice.ensures.same at c.in_ok-later.ensures in
    opens_types (g.I.Inputs.supply c.args.inputs.now) (g.I.Inputs.supply c.take_input.new.inputs) c.args.schema c.in_ok-later.later c.args.next.now c.args.ty.now c.in_ok-bytes.bytes c.plan_types.result c.in_ok-bytes.ensures compiled c.plan_types.ensures
