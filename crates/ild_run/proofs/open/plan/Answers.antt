use Rattle.std.proofs.Common.{ℕ, List, Err, Some, sym, subst, ◌≡◌}
use Rattle.std.proofs.lemmas.Option.{same_Some}
use Rattle.std.proofs.lemmas.Result.{err_from_is_err_and}
use Rattle.ild_edges.specs.Inputs.{Supply, MayBe}
use Rattle.ild_edges.specs.declared.inputs.Taken.TheVariants as Taken
use Rattle.ild_run.specs.Opening.{job_seen, CompileAnswer}
use Rattle.ild_run.proofs.Openings.{opens_schema, opens_faulty, opens_checked}
use Rattle.ild_run.proofs.open.plan.Goals as goal

-- what was taken under the schema's name, by its name in the words
by_name : (m : Supply) (name found b : List ℕ) → Some name ≡ Some found → MayBe m.files found (Taken.Bytes b) → MayBe m.files name (Taken.Bytes b)
by_name m name found b named taken = subst (λ (n : List ℕ). MayBe m.files n (Taken.Bytes b)) (sym (same_Some name found named)) taken

pub returns-in_err-bytes : goal.returns-in_err-bytes
returns-in_err-bytes g c =
    let p = err_from_is_err_and c.from_residual.result c.from_residual.ensures.1 in
    rw (p.1, p.2) (opens_schema (g.I.Inputs.supply c.args.inputs.now) (g.I.Inputs.supply c.take_input.new.inputs) (job_seen c.args.job.now) c.schema.result.now c.in_err-bytes.field-0.0 c.schema.ensures c.in_err-bytes.ensures.answer c.in_err-bytes.ensures.after)

pub returns-in_err-schema : goal.returns-in_err-schema
returns-in_err-schema g c =
    let p = err_from_is_err_and c.from_residual-in_err-schema.result c.from_residual-in_err-schema.ensures.1 in
    let answer = subst (λ (b : List ℕ). CompileAnswer b (Err c.in_err-schema.field-0.0)) c.as_slice.ensures.same c.in_err-schema.ensures in
    rw (p.1, p.2) (opens_faulty (g.I.Inputs.supply c.args.inputs.now) (g.I.Inputs.supply c.take_input.new.inputs) (job_seen c.args.job.now) c.schema.result.now c.in_ok-bytes.bytes c.in_err-schema.field-0.0 c.schema.ensures c.in_ok-bytes.ensures.answer answer c.in_ok-bytes.ensures.after)

pub returns-in-Check : goal.returns-in-Check
returns-in-Check g c =
    let m = g.I.Inputs.supply c.args.inputs.now in
    let taken = by_name m c.in-Check.field-0.now c.schema.result.now c.in_ok-bytes.bytes (rw c.in-Check.is at c.schema.ensures) c.in_ok-bytes.ensures.answer in
    let compiled = rw c.as_slice.ensures.same at c.in_ok-schema.ensures in
    rw c.in-Check.is (opens_checked m (g.I.Inputs.supply c.take_input.new.inputs) c.in-Check.field-0.now c.in_ok-bytes.bytes c.in_ok-schema.schema taken compiled c.in_ok-bytes.ensures.after)

pub returns-in-Compat : goal.returns-in-Compat
returns-in-Compat g c =
    let m = g.I.Inputs.supply c.args.inputs.now in
    let taken = by_name m c.in-Compat.field-0.now c.schema.result.now c.in_ok-bytes.bytes (rw c.in-Compat.is at c.schema.ensures) c.in_ok-bytes.ensures.answer in
    let compiled = rw c.as_slice.ensures.same at c.in_ok-schema.ensures in
    rw c.in-Compat.is (c.plan_pair.ensures m c.in-Compat.field-0.now c.in_ok-bytes.bytes taken compiled c.in_ok-bytes.ensures.after)

pub returns-in-Run : goal.returns-in-Run
returns-in-Run g c =
    let m = g.I.Inputs.supply c.args.inputs.now in
    let taken = by_name m c.in-Run.field-0.now c.schema.result.now c.in_ok-bytes.bytes (rw c.in-Run.is at c.schema.ensures) c.in_ok-bytes.ensures.answer in
    let compiled = rw c.as_slice.ensures.same at c.in_ok-schema.ensures in
    rw c.in-Run.is (c.plan_script.ensures m c.in-Run.field-0.now c.in_ok-bytes.bytes taken compiled c.in_ok-bytes.ensures.after)

pub returns-in-New : goal.returns-in-New
returns-in-New g c =
    let m = g.I.Inputs.supply c.args.inputs.now in
    let taken = by_name m c.in-New.field-0.now c.schema.result.now c.in_ok-bytes.bytes (rw c.in-New.is at c.schema.ensures) c.in_ok-bytes.ensures.answer in
    let compiled = rw c.as_slice.ensures.same at c.in_ok-schema.ensures in
    rw c.in-New.is (c.plan_value.ensures m c.in-New.field-0.now c.in_ok-bytes.bytes taken compiled c.in_ok-bytes.ensures.after)

pub returns-in-Verify : goal.returns-in-Verify
returns-in-Verify g c =
    let m = g.I.Inputs.supply c.args.inputs.now in
    let taken = by_name m c.in-Verify.field-0.now c.schema.result.now c.in_ok-bytes.bytes (rw c.in-Verify.is at c.schema.ensures) c.in_ok-bytes.ensures.answer in
    let compiled = rw c.as_slice.ensures.same at c.in_ok-schema.ensures in
    rw c.in-Verify.is (c.plan_proof.ensures m c.in-Verify.field-0.now c.in_ok-bytes.bytes taken compiled c.in_ok-bytes.ensures.after)

pub returns-in-Heads : goal.returns-in-Heads
returns-in-Heads g c =
    let m = g.I.Inputs.supply c.args.inputs.now in
    let taken = by_name m c.in-Heads.field-0.now c.schema.result.now c.in_ok-bytes.bytes (rw c.in-Heads.is at c.schema.ensures) c.in_ok-bytes.ensures.answer in
    let compiled = rw c.as_slice.ensures.same at c.in_ok-schema.ensures in
    rw c.in-Heads.is (c.plan_heads.ensures m c.in-Heads.field-0.now c.in_ok-bytes.bytes taken compiled c.in_ok-bytes.ensures.after)

pub returns-in-Prove : goal.returns-in-Prove
returns-in-Prove g c =
    let m = g.I.Inputs.supply c.args.inputs.now in
    let taken = by_name m c.in-Prove.field-0.now c.schema.result.now c.in_ok-bytes.bytes (rw c.in-Prove.is at c.schema.ensures) c.in_ok-bytes.ensures.answer in
    let compiled = rw c.as_slice.ensures.same at c.in_ok-schema.ensures in
    rw c.in-Prove.is (c.plan_path.ensures m c.in-Prove.field-0.now c.in_ok-bytes.bytes taken compiled c.in_ok-bytes.ensures.after)

pub returns-in-Migrate : goal.returns-in-Migrate
returns-in-Migrate g c =
    let m = g.I.Inputs.supply c.args.inputs.now in
    let taken = by_name m c.in-Migrate.field-0.now c.schema.result.now c.in_ok-bytes.bytes (rw c.in-Migrate.is at c.schema.ensures) c.in_ok-bytes.ensures.answer in
    let compiled = rw c.as_slice.ensures.same at c.in_ok-schema.ensures in
    rw c.in-Migrate.is (c.plan_move.ensures m c.in-Migrate.field-0.now taken compiled c.in_ok-bytes.ensures.after)

pub returns : goal.returns
returns g c =
    let m = g.I.Inputs.supply c.args.inputs.now in
    let taken = by_name m c.in-Show.field-0.now c.schema.result.now c.in_ok-bytes.bytes (rw c.in-Show.is at c.schema.ensures) c.in_ok-bytes.ensures.answer in
    let compiled = rw c.as_slice.ensures.same at c.in_ok-schema.ensures in
    rw c.in-Show.is (c.plan_root.ensures m c.in-Show.field-0.now c.in_ok-bytes.bytes taken compiled c.in_ok-bytes.ensures.after)
