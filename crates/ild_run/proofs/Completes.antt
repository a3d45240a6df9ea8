-- Where nothing stands in the way, a call ends as the plain value says.
use Rattle.std.proofs.Common.{◌≡◌, ◌⊎◌, ℕ, List, Option, Some, None, refl, sym, ap, ◌∙◌, subst, inl, inr}
use Rattle.ild_compile.specs.Compile.{Verdict, table}
use Rattle.ild_compile.proofs.OneVerdict.{one_verdict_lem}
use Rattle.ild_edges.specs.Inputs.{MayBe}
use Rattle.ild_edges.specs.declared.inputs.Taken.{Taken}
use Rattle.ild_run_open.specs.declared.start.Start.{Start}
use Rattle.ild_schema.specs.Names.{declared_names}
use Rattle.ild_schema.specs.declared.number.TypeNo.{TypeNo}
use Rattle.ild_schema.specs.declared.row.Row.{Row}
use Rattle.ild_run.specs.Work.{Work, Taking, ends, lists, answers, makes, opens, compiled_work, schema_work, job_work, work_of, IsVerdict, IsTaking, AreTaken}
use Rattle.ild_run.specs.Words.{Job, checks}
use Rattle.ild_run.specs.Ended.{Call, IsDue, Says, Ended}
use Rattle.ild_run.specs.Complete.{IsGivenSchema, IsCalm, IsComplete}
use Rattle.ild_run.proofs.CompletesHeads.{kept_by}
use Rattle.ild_run.proofs.CompletesMove.{moved_by}
use Rattle.ild_run.proofs.CompletesPair.{compared_by}
use Rattle.ild_run.proofs.CompletesPath.{proved_by}
use Rattle.ild_run.proofs.CompletesProof.{verified_by}
use Rattle.ild_run.proofs.Matchings.{asks_not, other_sort}
use Rattle.ild_run.proofs.Namings.{refuses_move}
use Rattle.ild_run.specs.Listed.{Lists}
use Rattle.ild_run.proofs.CompletesValue.{created_by}
use Rattle.ild_run.proofs.CompletesRoot.{shown_by}
use Rattle.ild_run.proofs.CompletesScript.{run_by}
use Rattle.ild_run.specs.declared.fault.Fault.{Fault}
use Rattle.ild_run.specs.declared.fault.Fault.TheVariants as F
use Rattle.ild_run.specs.declared.fault.Role.{Role}
use Rattle.ild_run.specs.declared.fault.Trouble.TheVariants as T
use Rattle.ild_run.specs.declared.status.Status.{Status}
use Rattle.ild_run.specs.declared.status.Status.TheVariants as S

-- a schema that is checked
abbrev Checks : Work → List Row → Type 0
Checks w rows = (w ≡ lists (declared_names rows)) ⊎ (w ≡ ends F.Memory)

checked : (c : Call) (rows : List Row) (given : IsGivenSchema c rows) (t : Taking) (verdict : Option Verdict) → IsVerdict (Taken.Bytes given.schema.bytes) verdict → Checks (compiled_work (checks given.schema_name) verdict t) rows
checked c rows given t None says = inr refl
checked c rows given t (Some v) says =
    let one : v ≡ table rows = one_verdict_lem given.schema.bytes v (table rows) says given.schema.compiles in
    inl (ap (λ x. compiled_work (checks given.schema_name) (Some x) t) one)

checked_job : (c : Call) (rows : List Row) (given : IsGivenSchema c rows) (t : Taking) → IsTaking (checks given.schema_name) c.before.supply t → Checks (job_work (checks given.schema_name) t) rows
checked_job c rows given t taken =
    let job = checks given.schema_name in
    let schema_is = subst (λ (f : Option (List (List ℕ × List ℕ))). MayBe f given.schema_name (t.input Role.Schema)) given.told (taken.input Role.Schema) ∙ given.schema.held in
    let same : job_work job t ≡ compiled_work job t.verdict t = ap (λ x. schema_work job x t.verdict t) schema_is in
    subst (λ (w : Work). Checks w rows) (sym same) (checked c rows given t t.verdict (subst (λ (x : Taken). IsVerdict x t.verdict) schema_is taken.verdict))

checked_work : (c : Call) (rows : List Row) (given : IsGivenSchema c rows) (t : Taking) → AreTaken c.job c.before.supply t → Checks (work_of c.job t) rows
checked_work c rows given t taken =
    subst (λ (w : Work). Checks w rows) (sym (ap (λ j. work_of j t) given.job)) (checked_job c rows given t (subst (λ (j : Option Job). AreTaken j c.before.supply t) given.job taken))

no_check_end : (w : Work) (f : Fault) (rows : List Row) → Checks w rows → (f ≡ F.Memory → ⊥) → w ≡ ends f → ⊥
no_check_end w f rows (inl is) other ended = let e : lists (declared_names rows) ≡ ends f = sym is ∙ ended in cc
no_check_end w f rows (inr is) other ended = other (let e : ends F.Memory ≡ ends f = sym is ∙ ended in cc)

no_check_answers : (w : Work) (rows run : List Row) (n : TypeNo) (start : Start) (b : List ℕ) → Checks w rows → w ≡ answers run n start b → ⊥
no_check_answers w rows run n start b (inl is) work = let e : lists (declared_names rows) ≡ answers run n start b = sym is ∙ work in cc
no_check_answers w rows run n start b (inr is) work = let e : ends F.Memory ≡ answers run n start b = sym is ∙ work in cc

no_check_value : (w : Work) (rows made : List Row) (n : TypeNo) (b : List ℕ) → Checks w rows → w ≡ makes made n b → ⊥
no_check_value w rows made n b (inl is) work = let e : lists (declared_names rows) ≡ makes made n b = sym is ∙ work in cc
no_check_value w rows made n b (inr is) work = let e : ends F.Memory ≡ makes made n b = sym is ∙ work in cc

no_check_root : (w : Work) (rows opened : List Row) (n : TypeNo) (id : List ℕ) → Checks w rows → w ≡ opens opened n id → ⊥
no_check_root w rows opened n id (inl is) work = let e : lists (declared_names rows) ≡ opens opened n id = sym is ∙ work in cc
no_check_root w rows opened n id (inr is) work = let e : ends F.Memory ≡ opens opened n id = sym is ∙ work in cc

no_check_fault : (c : Call) (rows : List Row) (given : IsGivenSchema c rows) (calm : IsCalm c) (t : Taking) (f : Fault) → AreTaken c.job c.before.supply t → IsDue c t f → f ≡ F.Memory
no_check_fault c rows given calm t F.Memory taken due = refl
no_check_fault c rows given calm t F.Words taken due = absurd (no_check_end (work_of c.job t) F.Words rows (checked_work c rows given t taken) (λ e. cc) due)
no_check_fault c rows given calm t (F.Schema f) taken due = absurd (no_check_end (work_of c.job t) (F.Schema f) rows (checked_work c rows given t taken) (λ e. cc) due)
no_check_fault c rows given calm t (F.Input role T.Failed) taken due = absurd (calm.inputs due.0)
no_check_fault c rows given calm t (F.Input role T.Absent) taken due = absurd (no_check_end (work_of c.job t) (F.Input role T.Absent) rows (checked_work c rows given t taken) (λ e. cc) due.0)
no_check_fault c rows given calm t (F.Input role T.Long) taken due = absurd (no_check_end (work_of c.job t) (F.Input role T.Long) rows (checked_work c rows given t taken) (λ e. cc) due.0)
no_check_fault c rows given calm t F.Store taken due = absurd (asks_not c t _ (checked_work c rows given t taken) refl due.1)
no_check_fault c rows given calm t (F.Clash id) taken (inl due) = absurd (no_check_answers (work_of c.job t) rows due.script.rows due.script.type due.script.start due.script.bytes (checked_work c rows given t taken) due.script.work)
no_check_fault c rows given calm t (F.Clash id) taken (inr (inr moved)) = absurd (other_sort _ _ _ (checked_work c rows given t taken) moved.moved.work refl refl)
no_check_fault c rows given calm t (F.Clash id) taken (inr (inl clash)) = absurd (no_check_value (work_of c.job t) rows clash.value.rows clash.value.type clash.value.bytes (checked_work c rows given t taken) clash.value.work)
no_check_fault c rows given calm t (F.Value r) taken (inl due) = absurd (let x = due.1 in no_check_answers (work_of c.job t) rows x.script.rows x.script.type x.script.start x.script.bytes (checked_work c rows given t taken) x.script.work)
no_check_fault c rows given calm t (F.Value r) taken (inr (inr moved)) = absurd (other_sort _ _ _ (checked_work c rows given t taken) (refuses_move c t r moved).work refl refl)
no_check_fault c rows given calm t (F.Value r) taken (inr (inl due)) = absurd (no_check_value (work_of c.job t) rows due.value.rows due.value.type due.value.bytes (checked_work c rows given t taken) due.value.work)
no_check_fault c rows given calm t F.Proof taken due = absurd (other_sort _ _ _ (checked_work c rows given t taken) due.proof.work refl refl)
no_check_fault c rows given calm t (F.Root id why) taken (inl due) = absurd (no_check_answers (work_of c.job t) rows due.script.rows due.script.type due.script.start due.script.bytes (checked_work c rows given t taken) due.script.work)
no_check_fault c rows given calm t (F.Root id why) taken (inr (inr (inr moved))) = absurd (other_sort _ _ _ (checked_work c rows given t taken) moved.moved.work refl refl)
no_check_fault c rows given calm t (F.Root id why) taken (inr (inr (inl due))) = absurd (other_sort _ _ _ (checked_work c rows given t taken) due.sought.work refl refl)
no_check_fault c rows given calm t (F.Root id why) taken (inr (inl due)) = absurd (no_check_root (work_of c.job t) rows due.opened.rows due.opened.type due.opened.root (checked_work c rows given t taken) due.opened.work)

same_names : (w : Work) (names : List (List ℕ)) (rows : List Row) → Checks w rows → w ≡ lists names → names ≡ declared_names rows
same_names w names rows (inl is) work = let e : lists names ≡ lists (declared_names rows) = sym work ∙ is in cc
same_names w names rows (inr is) work = absurd (let e : lists names ≡ ends F.Memory = sym work ∙ is in cc)

abbrev IsListed : Call → List Row → Status → Type 0
IsListed c rows status = (status ≡ S.Memory) ⊎ ((status ≡ S.Done) × Lists (declared_names rows) c.before.output c.after.output)

listed_by : (c : Call) (rows : List Row) (given : IsGivenSchema c rows) (calm : IsCalm c) (t : Taking) (status : Status) → AreTaken c.job c.before.supply t → Says c t status → IsListed c rows status
listed_by c rows given calm t S.Done taken (inl all) = absurd (no_check_answers (work_of c.job t) rows all.script.rows all.script.type all.script.start all.script.bytes (checked_work c rows given t taken) all.script.work)
listed_by c rows given calm t S.Done taken (inr (inr (inl created))) = absurd (no_check_value (work_of c.job t) rows created.value.rows created.value.type created.value.bytes (checked_work c rows given t taken) created.value.work)
listed_by c rows given calm t S.Done taken (inr (inr (inr (inr (inl told))))) = absurd (other_sort _ _ _ (checked_work c rows given t taken) told.types.work refl refl)
listed_by c rows given calm t S.Done taken (inr (inr (inr (inr (inr (inl told)))))) = absurd (other_sort _ _ _ (checked_work c rows given t taken) told.proof.work refl refl)
listed_by c rows given calm t S.Done taken (inr (inr (inr (inr (inr (inr (inl all))))))) = absurd (other_sort _ _ _ (checked_work c rows given t taken) all.script.work refl refl)
listed_by c rows given calm t S.Done taken (inr (inr (inr (inr (inr (inr (inr (inl sought)))))))) = absurd (other_sort _ _ _ (checked_work c rows given t taken) sought.made.sought.work refl refl)
listed_by c rows given calm t S.Done taken (inr (inr (inr (inr (inr (inr (inr (inr named)))))))) = absurd (other_sort _ _ _ (checked_work c rows given t taken) named.has.moved.work refl refl)
listed_by c rows given calm t S.Done taken (inr (inr (inr (inl shows)))) = absurd (let has = shows.1.has in no_check_root (work_of c.job t) rows has.opened.rows has.opened.type has.opened.root (checked_work c rows given t taken) has.opened.work)
listed_by c rows given calm t S.Done taken (inr (inl listed)) =
    inr (refl, subst (λ (names : List (List ℕ)). Lists names c.before.output c.after.output) (same_names (work_of c.job t) listed.names rows (checked_work c rows given t taken) listed.work) listed.written)
listed_by c rows given calm t S.Refused taken (inl all) = absurd (no_check_answers (work_of c.job t) rows all.script.rows all.script.type all.script.start all.script.bytes (checked_work c rows given t taken) all.script.work)
listed_by c rows given calm t S.Refused taken (inr (inr (inl told))) = absurd (other_sort _ _ _ (checked_work c rows given t taken) told.1.types.work refl refl)
listed_by c rows given calm t S.Refused taken (inr (inr (inr (inl told)))) = absurd (other_sort _ _ _ (checked_work c rows given t taken) told.proof.work refl refl)
listed_by c rows given calm t S.Refused taken (inr (inr (inr (inr all)))) = absurd (other_sort _ _ _ (checked_work c rows given t taken) all.script.work refl refl)
listed_by c rows given calm t S.Refused taken (inr (inl shows)) = absurd (let has = shows.has in no_check_root (work_of c.job t) rows has.opened.rows has.opened.type has.opened.root (checked_work c rows given t taken) has.opened.work)
listed_by c rows given calm t S.Memory taken says = inl refl
listed_by c rows given calm t S.SinkFault taken says = absurd (calm.sink says.0)
listed_by c rows given calm t S.Words taken says = absurd (let e = no_check_fault c rows given calm t F.Words taken says.due in cc)
listed_by c rows given calm t S.Schema taken tells = absurd (let e = no_check_fault c rows given calm t (F.Schema tells.0) taken tells.1.due in cc)
listed_by c rows given calm t S.Input taken says = absurd (let e = no_check_fault c rows given calm t (F.Input says.0 says.1) taken says.2.due in cc)
listed_by c rows given calm t S.StoreFault taken (inl tells) = absurd (let e = no_check_fault c rows given calm t F.Store taken tells.due in cc)
listed_by c rows given calm t S.StoreFault taken (inr tells) = absurd (let e = no_check_fault c rows given calm t (F.Clash tells.0) taken tells.1.due in cc)
listed_by c rows given calm t S.Root taken says = absurd (let e = no_check_fault c rows given calm t (F.Root says.0 says.1) taken says.2.due in cc)
listed_by c rows given calm t S.Value taken (inl says) = absurd (let e = no_check_fault c rows given calm t (F.Value says.0) taken says.1.due in cc)
listed_by c rows given calm t S.Value taken (inr tells) = absurd (let e = no_check_fault c rows given calm t F.Proof taken tells.due in cc)

-- a call that ended with its cause is complete
pub complete_from : (c : Call) (status : Status) → Ended c status → IsComplete c status
complete_from c status ended = record {
  runs = λ tests v script given calm. run_by c tests v script given calm ended.taking ended.taken status ended.says;
  checks = λ rows given calm. listed_by c rows given calm ended.taking status ended.taken ended.says;
  creates = λ v d given calm. created_by c v d given calm ended.taking status ended.taken ended.says;
  shows = λ v given calm. shown_by c v given calm ended.taking status ended.taken ended.says;
  compares = λ given calm. compared_by c given calm ended.taking status ended.taken ended.says;
  verifies = λ given calm. verified_by c given calm ended.taking status ended.taken ended.says;
  keeps = λ script given calm. kept_by c script given calm ended.taking status ended.taken ended.says;
  proves = λ v given calm. proved_by c v given calm ended.taking status ended.taken ended.says;
  migrates = λ v given lets. moved_by c v given lets ended.taking status ended.taken ended.says;
}
