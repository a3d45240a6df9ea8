-- Taking the input of a script over named heads, and how a call ends that answers it.
use Rattle.std.specs.Prelude.{length, ◌<◌, Bool, false, true}
use Rattle.std.proofs.Common.{◌≡◌, ℕ, ◌≤◌, List, IfOk, Option, Some, None, Result, Ok, Err, refl, sym, ap, ◌∙◌, subst, arith, inl, inr}
use Rattle.std.proofs.lemmas.Bool.{false≢true}
use Rattle.ild_compile.specs.Compile.{table}
use Rattle.ild_edges.specs.Inputs.{Supply, MayBe}
use Rattle.ild_edges.proofs.After.{After-trans}
use Rattle.ild_edges.specs.declared.inputs.Taken.{Taken}
use Rattle.ild_run_heads.specs.Heads.{HeadsAnswer}
use Rattle.ild_run_work.specs.Rules.{rules_of}
use Rattle.ild_schema.specs.Names.{number_named}
use Rattle.ild_schema.specs.Table.{IsTable}
use Rattle.ild_schema.specs.declared.number.TypeNo.{TypeNo}
use Rattle.ild_schema.specs.declared.row.Row.{Row}
use Rattle.ild_script_session.specs.declared.cut.Cut.{Cut}
use Rattle.ild_script_session.specs.declared.cut.Cut.TheVariants as C
use Rattle.ild_run.specs.declared.fault.Fault.{Fault}
use Rattle.ild_run.specs.declared.fault.Fault.TheVariants as F
use Rattle.ild_run.specs.declared.fault.Role.{Role}
use Rattle.ild_run.specs.declared.fault.Trouble.TheVariants as T
use Rattle.ild_run.specs.declared.open.Task.{Task}
use Rattle.ild_run.specs.declared.open.Task.TheVariants as P
use Rattle.ild_run.specs.declared.status.Status.{Status}
use Rattle.ild_run.specs.Ended.{Call, Says, Ended}
use Rattle.ild_run.specs.inside.Headed.{headed_status, HeadedAs}
use Rattle.ild_run.specs.Words.{Job, keeps}
use Rattle.ild_run.specs.Work.{Taking, in_roles, keep_work, serves, work_of, job_work, IsTaking}
use Rattle.ild_run.specs.Opening.{InputAnswer, TakesInput, OpensAnswer, IsReady, OpensBehind}
use Rattle.ild_run.proofs.Endings.{are_taken, is_work}
use Rattle.ild_run.proofs.Openings.{all_roles, no_verdict, opens_with, some_taken}

-- ---- the script's input

-- the table has no type of this name
pub opens_headless : (k : Supply) (rows : List Row) (ty script : List ℕ) → number_named ty rows ≡ None → OpensBehind k rows (λ name. keeps name ty script) (Err F.Words) k
opens_headless k rows ty script none m name b is compiles after =
    opens_with m k (keeps name ty script) name b rows (Err F.Words) refl is compiles (λ t. ap (λ found. keep_work rows found t) none) tt after

abbrev heads_taking : List ℕ → List Row → Taken → Taking
heads_taking b rows script = record { input = in_roles (Taken.Bytes b) script; verdict = Some (table rows); next = None }

-- the task that the script's input is
abbrev pub heads_task : List Row → TypeNo → Result (List ℕ) Fault → Result Task Fault
heads_task rows n (Ok b) = Ok (P.Serve rows n b)
heads_task rows n (Err f) = Err f

-- a script's input is of no other role
abbrev is_script : Role → Bool
is_script Role.Schema = false
is_script Role.Next = false
is_script Role.Script = true
is_script Role.Value = false
is_script Role.Proof = false

script_role : (role : Role) → role ≡ Role.Script → is_script role ≡ false → ⊥
script_role role e other = false≢true (sym other ∙ ap is_script e)

heads_answer : (m k n : Supply) (name ty script b : List ℕ) (rows : List Row) (t : TypeNo) (result : Result (List ℕ) Fault) → number_named ty rows ≡ Some t.0 → k.files ≡ m.files → m.lacks ≤ k.lacks → m.faults ≤ k.faults
    → InputAnswer k Role.Script script result n → (x : Taken) × MayBe m.files script x × OpensAnswer m (keeps name ty script) (heads_taking b rows x) (heads_task rows t result) n
heads_answer m k n name ty script b rows t (Ok c) named same lacks faults answer =
    (Taken.Bytes c, subst (λ (x : Option (List (List ℕ × List ℕ))). MayBe x script (Taken.Bytes c)) same answer, ap (λ found. keep_work rows found (Taken.Bytes c)) named)
heads_answer m k n name ty script b rows t (Err (F.Input Role.Script T.Absent)) named same lacks faults answer =
    (Taken.Absent, subst (λ (x : Option (List (List ℕ × List ℕ))). MayBe x script Taken.Absent) same answer.1, (ap (λ found. keep_work rows found Taken.Absent) named, let rose = answer.2 in omega arith))
heads_answer m k n name ty script b rows t (Err (F.Input Role.Script T.Long)) named same lacks faults answer =
    (Taken.Long, subst (λ (x : Option (List (List ℕ × List ℕ))). MayBe x script Taken.Long) same answer.1, (ap (λ found. keep_work rows found Taken.Long) named, let rose = answer.2 in omega arith))
heads_answer m k n name ty script b rows t (Err (F.Input Role.Script T.Failed)) named same lacks faults answer =
    let some = some_taken m.files script in
    (some.0, some.1, (let rose = answer.1 in omega arith, record { bytes = b; rows = rows; schema = refl; verdict = refl; number = t.0; named = named }))
heads_answer m k n name ty script b rows t (Err F.Memory) named same lacks faults answer = let some = some_taken m.files script in (some.0, some.1, tt)
heads_answer m k n name ty script b rows t (Err (F.Input Role.Schema T.Absent)) named same lacks faults answer = absurd (script_role Role.Schema answer.0 refl)
heads_answer m k n name ty script b rows t (Err (F.Input Role.Schema T.Long)) named same lacks faults answer = absurd (script_role Role.Schema answer.0 refl)
heads_answer m k n name ty script b rows t (Err (F.Input Role.Schema T.Failed)) named same lacks faults answer = absurd (script_role Role.Schema answer.0 refl)
heads_answer m k n name ty script b rows t (Err (F.Input Role.Next T.Absent)) named same lacks faults answer = absurd (script_role Role.Next answer.0 refl)
heads_answer m k n name ty script b rows t (Err (F.Input Role.Next T.Long)) named same lacks faults answer = absurd (script_role Role.Next answer.0 refl)
heads_answer m k n name ty script b rows t (Err (F.Input Role.Next T.Failed)) named same lacks faults answer = absurd (script_role Role.Next answer.0 refl)
heads_answer m k n name ty script b rows t (Err (F.Input Role.Value T.Absent)) named same lacks faults answer = absurd (script_role Role.Value answer.0 refl)
heads_answer m k n name ty script b rows t (Err (F.Input Role.Value T.Long)) named same lacks faults answer = absurd (script_role Role.Value answer.0 refl)
heads_answer m k n name ty script b rows t (Err (F.Input Role.Value T.Failed)) named same lacks faults answer = absurd (script_role Role.Value answer.0 refl)
heads_answer m k n name ty script b rows t (Err (F.Input Role.Proof T.Absent)) named same lacks faults answer = absurd (script_role Role.Proof answer.0 refl)
heads_answer m k n name ty script b rows t (Err (F.Input Role.Proof T.Long)) named same lacks faults answer = absurd (script_role Role.Proof answer.0 refl)
heads_answer m k n name ty script b rows t (Err (F.Input Role.Proof T.Failed)) named same lacks faults answer = absurd (script_role Role.Proof answer.0 refl)
heads_answer m k n name ty script b rows t (Err F.Words) named same lacks faults answer = absurd answer
heads_answer m k n name ty script b rows t (Err (F.Schema f)) named same lacks faults answer = absurd answer
heads_answer m k n name ty script b rows t (Err F.Store) named same lacks faults answer = absurd answer
heads_answer m k n name ty script b rows t (Err (F.Clash id)) named same lacks faults answer = absurd answer
heads_answer m k n name ty script b rows t (Err (F.Value r)) named same lacks faults answer = absurd answer
heads_answer m k n name ty script b rows t (Err F.Proof) named same lacks faults answer = absurd answer
heads_answer m k n name ty script b rows t (Err (F.Root id why)) named same lacks faults answer = absurd answer

heads_ready : (rows : List Row) (t : TypeNo) (result : Result (List ℕ) Fault) → t.0 < length rows → IfOk (heads_task rows t result) IsReady
heads_ready rows t (Ok b) within = within
heads_ready rows t (Err f) within = tt

pub opens_heads : (k n : Supply) (rows : List Row) (ty script : List ℕ) (t : TypeNo) (result : Result (List ℕ) Fault) → number_named ty rows ≡ Some t.0 → t.0 < length rows
    → TakesInput k Role.Script script result n → OpensBehind k rows (λ name. keeps name ty script) (heads_task rows t result) n
opens_heads k n rows ty script t result named within takes m name b is compiles after =
    let x = heads_answer m k n name ty script b rows t result named after.files after.lacks after.faults takes.answer in
    record {
      taking = heads_taking b rows x.0;
      taken = record { input = all_roles (keeps name ty script) m (Taken.Bytes b) x.0 is x.1; verdict = compiles; next = no_verdict x.0 };
      answer = x.2;
      ready = heads_ready rows t result within;
      after = After-trans m k n after takes.after;
    }

-- ---- how the call ends

module _ (c : Call) (t : Taking) (rows : List Row) (n : TypeNo) (b : List ℕ) (work : work_of c.job t ≡ serves rows n b) (table : IsTable rows) where
  says_headed : (result : Result Bool Cut) (status : Status) → HeadsAnswer (rules_of rows n) b c.before.moment c.before.output result c.after.moment c.after.output → status ≡ headed_status result → Says c t status
  says_headed (Ok false) status answer is = subst (λ (s : Status). Says c t s) (sym is) (inr (inr (inr (inr (inr (inr (inl (record { script = record { rows = rows; type = n; bytes = b; work = work }; table = table; all = answer }))))))))
  says_headed (Ok true) status answer is = subst (λ (s : Status). Says c t s) (sym is) (inr (inr (inr (inr (record { script = record { rows = rows; type = n; bytes = b; work = work }; table = table; all = answer })))))
  says_headed (Err C.Sink) status answer is = subst (λ (s : Status). Says c t s) (sym is) (answer.0, inr (inr (inr (inr (inr (inr (inr (inl (record { script = record { rows = rows; type = n; bytes = b; work = work }; table = table; some = answer.1 })))))))))
  says_headed (Err C.Memory) status answer is = subst (λ (s : Status). Says c t s) (sym is) (inr (inr (inr (inr (inr (inr (inr (inr (inl (record { script = record { rows = rows; type = n; bytes = b; work = work }; table = table; some = answer }))))))))))

pub ended_headed : (c : Call) (job : Job) (t : Taking) (rows : List Row) (n : TypeNo) (b : List ℕ) (status : Status) → c.job ≡ Some job → IsTaking job c.before.supply t → job_work job t ≡ serves rows n b
    → HeadedAs rows n b c.before.moment c.before.output status c.after.moment c.after.output → Ended c status
ended_headed c job t rows n b status named a work headed = record {
  taking = t;
  taken = are_taken c job t named a;
  says = says_headed c t rows n b (is_work c job t (serves rows n b) named work) headed.table headed.result status headed.runs.answer headed.status_is;
}
