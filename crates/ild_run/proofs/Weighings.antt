-- How a call ends that weighs a proof.
use Rattle.std.proofs.Common.{◌≡◌, ℕ, List, Bool, true, false, Some, Result, Ok, Err, sym, subst, inl, inr}
use Rattle.ild_edges.specs.Count.{Rose}
use Rattle.ild_edges.specs.Sink.{Output}
use Rattle.ild_run_verify.specs.Verified.{IsTold, IsCutOff, VerifyAnswer}
use Rattle.ild_run_verify.specs.declared.fault.VerifyFault.{VerifyFault}
use Rattle.ild_run_verify.specs.declared.fault.VerifyFault.TheVariants as X
use Rattle.ild_schema.specs.Table.{IsTable}
use Rattle.ild_schema.specs.declared.number.TypeNo.{TypeNo}
use Rattle.ild_schema.specs.declared.row.Row.{Row}
use Rattle.ild_script_session.specs.declared.cut.Cut.TheVariants as C
use Rattle.ild_run.specs.Cut.{ToldAs}
use Rattle.ild_run.specs.Ended.{Call, RefusesProof, VerifiesPath, VerifiesSome, Says, Ended}
use Rattle.ild_run.specs.Shown.{hash}
use Rattle.ild_run.specs.inside.Weighed.{WeighedTold, WeighedAs}
use Rattle.ild_run.specs.Words.{Job}
use Rattle.ild_run.specs.Work.{Taking, weighs, work_of, job_work, IsTaking}
use Rattle.ild_run.specs.declared.fault.Fault.TheVariants as F
use Rattle.ild_run.specs.declared.status.Status.{Status}
use Rattle.ild_run.proofs.Endings.{are_taken, is_work, says_by}

module _ (c : Call) (t : Taking) (rows : List Row) (n : TypeNo) (id : List ℕ) (path : List (List ℕ)) (b : List ℕ) (work : work_of c.job t ≡ weighs rows n id path b) (same : c.after.moment ≡ c.before.moment) (table : IsTable rows) where
  told_of : (reserved : Bool) (behind : Output) → c.after.output ≡ behind → IsTold hash rows n id path b reserved c.before.output behind → VerifiesPath c t reserved
  told_of reserved behind is told = record {
    proof = record { rows = rows; type = n; root = id; path = path; bytes = b; work = work; same = same };
    table = table;
    told = subst (λ (o : Output). IsTold hash rows n id path b reserved c.before.output o) (sym is) told;
  }

  some_of : (behind : Output) → c.after.output ≡ behind → IsCutOff hash rows n id path b c.before.output behind → VerifiesSome c t
  some_of behind is cut = record {
    proof = record { rows = rows; type = n; root = id; path = path; bytes = b; work = work; same = same };
    told = subst (λ (o : Output). IsCutOff hash rows n id path b c.before.output o) (sym is) cut;
  }

  says_weighed : (result : Result Bool VerifyFault) (behind : Output) (status : Status) → VerifyAnswer hash rows n id path b c.before.output result behind → WeighedTold result behind status c.after.output → Says c t status
  says_weighed (Ok false) behind status answer told = subst (λ (s : Status). Says c t s) (sym told.0) (inr (inr (inr (inr (inr (inl (told_of false behind told.1 answer)))))))
  says_weighed (Ok true) behind status answer told = subst (λ (s : Status). Says c t s) (sym told.0) (inr (inr (inr (inl (told_of true behind told.1 answer)))))
  says_weighed (Err X.Proof) behind status answer told =
      let refused : RefusesProof c t = record { proof = record { rows = rows; type = n; root = id; path = path; bytes = b; work = work; same = same }; table = table; nothing = answer.0 } in
      says_by c t F.Proof status refused same (subst (λ (o : Output). ToldAs F.Proof o status c.after.output) answer.1 told).told
  says_weighed (Err X.Memory) behind status answer told = says_by c t F.Memory status tt (inl same) (subst (λ (o : Output). ToldAs F.Memory o status c.after.output) answer told).told
  says_weighed (Err (X.Cut C.Sink)) behind status answer told =
      let rose = subst (λ (o : Output). Rose c.before.output.faults o.faults) (sym told.1) answer.0 in
      subst (λ (s : Status). Says c t s) (sym told.0) (rose, inr (inr (inr (inr (inr (inr (inl (some_of behind told.1 answer.1))))))))
  says_weighed (Err (X.Cut C.Memory)) behind status answer told = subst (λ (s : Status). Says c t s) (sym told.0) (inr (inr (inr (inr (inr (inr (inr (inl (some_of behind told.1 answer)))))))))

pub ended_weighed : (c : Call) (job : Job) (t : Taking) (rows : List Row) (n : TypeNo) (id : List ℕ) (path : List (List ℕ)) (b : List ℕ) (status : Status) → c.job ≡ Some job → IsTaking job c.before.supply t
    → job_work job t ≡ weighs rows n id path b → c.after.moment ≡ c.before.moment → WeighedAs rows n id path b c.before.output status c.after.output → Ended c status
ended_weighed c job t rows n id path b status named a work same weighed = record {
  taking = t;
  taken = are_taken c job t named a;
  says = says_weighed c t rows n id path b (is_work c job t (weighs rows n id path b) named work) same weighed.table weighed.result weighed.behind status weighed.verified.answer weighed.told;
}
