-- Where nothing stands in the way, a script over named heads is answered.
use Rattle.std.proofs.Common.{◌≡◌, ◌⊎◌, ℕ, List, Bool, true, false, cond, Option, Some, None, refl, sym, ap, ◌∙◌, subst, inl, inr}
use Rattle.ild_compile.specs.Compile.{Verdict, table}
use Rattle.ild_compile.proofs.OneVerdict.{one_verdict_lem}
use Rattle.ild_edges.specs.Inputs.{MayBe, taken_of, file_at}
use Rattle.ild_edges.specs.declared.inputs.Taken.{Taken}
use Rattle.ild_run_heads.specs.Heads.{HeadsDone}
use Rattle.ild_run_work.specs.Rules.{rules_of}
use Rattle.ild_schema.specs.Names.{number_named}
use Rattle.ild_schema.specs.declared.number.TypeNo.{TypeNo}
use Rattle.ild_schema.specs.declared.row.Row.{Row}
use Rattle.ild_script.specs.Line.{lines_of}
use Rattle.ild_run.specs.Work.{Work, Taking, ends, serves, keep_work, compiled_work, schema_work, job_work, work_of, IsVerdict, IsTaking, AreTaken}
use Rattle.ild_run.specs.Words.{Job, keeps}
use Rattle.ild_run.specs.Ended.{Call, IsDue, HeadsAll, Says}
use Rattle.ild_run.specs.Complete.{IsGivenHeads, IsCalm, KeepsPlainly}
use Rattle.ild_run.specs.declared.fault.Fault.{Fault}
use Rattle.ild_run.specs.declared.fault.Fault.TheVariants as F
use Rattle.ild_run.specs.declared.fault.Role.{Role}
use Rattle.ild_run.specs.declared.fault.Trouble.TheVariants as T
use Rattle.ild_run.specs.declared.status.Status.{Status}
use Rattle.ild_run.specs.declared.status.Status.TheVariants as S
use Rattle.ild_run.proofs.Matchings.{asks_not, other_sort}
use Rattle.ild_run.proofs.Namings.{refuses_move}

abbrev Serving : Work → List Row → TypeNo → List ℕ → Type 0
Serving w rows n b = (w ≡ serves rows n b) ⊎ (w ≡ ends F.Memory)

-- what is said of the script that is served
abbrev OfServed : (List Row → TypeNo → List ℕ → Type 0) → Work → Type 0
OfServed P (serves rows n b) = P rows n b
OfServed P w = ⊥

no_end : (w : Work) (f : Fault) (rows : List Row) (n : TypeNo) (b : List ℕ) → Serving w rows n b → (f ≡ F.Memory → ⊥) → w ≡ ends f → ⊥
no_end w f rows n b (inl is) other ended = let e : serves rows n b ≡ ends f = sym is ∙ ended in cc
no_end w f rows n b (inr is) other ended = other (let e : ends F.Memory ≡ ends f = sym is ∙ ended in cc)

module _ (c : Call) (script : List ℕ) (given : IsGivenHeads c script) where
  abbrev job : Job
  job = keeps given.schema_name given.type_name given.script_name

  abbrev IsServing : Work → Type 0
  IsServing w = Serving w given.typed.rows given.typed.type script

  -- ---- the work

  named_serves : (found : Option ℕ) (taken : Taken) → found ≡ Some given.typed.type.0 → taken ≡ Taken.Bytes script → IsServing (keep_work given.typed.rows found taken)
  named_serves found taken named held =
      let same : keep_work given.typed.rows found taken ≡ serves given.typed.rows given.typed.type script =
      ap (λ x. keep_work given.typed.rows x taken) named ∙ ap (λ x. keep_work given.typed.rows (Some given.typed.type.0) x) held in
      inl same

  compiled_serves : (t : Taking) (verdict : Option Verdict) → t.input Role.Script ≡ Taken.Bytes script → IsVerdict (Taken.Bytes given.typed.schema.bytes) verdict → IsServing (compiled_work job verdict t)
  compiled_serves t None held says = inr refl
  compiled_serves t (Some w) held says =
      let one : table given.typed.rows ≡ w = one_verdict_lem given.typed.schema.bytes (table given.typed.rows) w given.typed.schema.compiles says in
      subst (λ (x : Verdict). IsServing (compiled_work job (Some x) t)) one (named_serves (number_named given.type_name given.typed.rows) (t.input Role.Script) given.typed.named held)

  under : (name : List ℕ) (x : Taken) (b : List ℕ) → MayBe c.before.supply.files name x → taken_of (file_at given.files name) ≡ Taken.Bytes b → x ≡ Taken.Bytes b
  under name x b there held = subst (λ (f : Option (List (List ℕ × List ℕ))). MayBe f name x) given.told there ∙ held

  job_serves : (t : Taking) → IsTaking job c.before.supply t → IsServing (job_work job t)
  job_serves t taken =
      let schema_is = under given.schema_name (t.input Role.Schema) given.typed.schema.bytes (taken.input Role.Schema) given.typed.schema.held in
      let script_is = under given.script_name (t.input Role.Script) script (taken.input Role.Script) given.script_held in
      let same : job_work job t ≡ compiled_work job t.verdict t = ap (λ x. schema_work job x t.verdict t) schema_is in
      subst IsServing (sym same) (compiled_serves t t.verdict script_is (subst (λ (x : Taken). IsVerdict x t.verdict) schema_is taken.verdict))

  module _ (calm : IsCalm c) (t : Taking) (taken : AreTaken c.job c.before.supply t) where
    here : IsServing (work_of c.job t)
    here = subst IsServing (sym (ap (λ j. work_of j t) given.job)) (job_serves t (subst (λ (j : Option Job). AreTaken j c.before.supply t) given.job taken))

    -- ---- what it is not

    ends_not : (f : Fault) → (f ≡ F.Memory → ⊥) → work_of c.job t ≡ ends f → ⊥
    ends_not f other ended = no_end (work_of c.job t) f given.typed.rows given.typed.type script here other ended

    no_fault : (f : Fault) → IsDue c t f → f ≡ F.Memory
    no_fault F.Memory due = refl
    no_fault F.Words due = absurd (ends_not F.Words (λ e. cc) due)
    no_fault (F.Schema f) due = absurd (ends_not (F.Schema f) (λ e. cc) due)
    no_fault (F.Input role T.Failed) due = absurd (calm.inputs due.0)
    no_fault (F.Input role T.Absent) due = absurd (ends_not (F.Input role T.Absent) (λ e. cc) due.0)
    no_fault (F.Input role T.Long) due = absurd (ends_not (F.Input role T.Long) (λ e. cc) due.0)
    no_fault F.Store due = absurd (asks_not c t _ here refl due.1)
    no_fault (F.Clash id) (inl due) = absurd (other_sort _ _ _ here due.script.work refl refl)
    no_fault (F.Clash id) (inr (inr moved)) = absurd (other_sort _ _ _ here moved.moved.work refl refl)
    no_fault (F.Clash id) (inr (inl due)) = absurd (other_sort _ _ _ here due.value.work refl refl)
    no_fault (F.Value r) (inl due) = absurd (other_sort _ _ _ here due.1.script.work refl refl)
    no_fault (F.Value r) (inr (inr moved)) = absurd (other_sort _ _ _ here (refuses_move c t r moved).work refl refl)
    no_fault (F.Value r) (inr (inl due)) = absurd (other_sort _ _ _ here due.value.work refl refl)
    no_fault F.Proof due = absurd (other_sort _ _ _ here due.proof.work refl refl)
    no_fault (F.Root id why) (inl due) = absurd (other_sort _ _ _ here due.script.work refl refl)
    no_fault (F.Root id why) (inr (inr (inr moved))) = absurd (other_sort _ _ _ here moved.moved.work refl refl)
    no_fault (F.Root id why) (inr (inr (inl due))) = absurd (other_sort _ _ _ here due.sought.work refl refl)
    no_fault (F.Root id why) (inr (inl due)) = absurd (other_sort _ _ _ here due.opened.work refl refl)

    -- ---- what it says

    said : (P : List Row → TypeNo → List ℕ → Type 0) (rows : List Row) (n : TypeNo) (b : List ℕ) → work_of c.job t ≡ serves rows n b → P rows n b → P given.typed.rows given.typed.type script
    said P rows n b work p = by here
      where
        by : IsServing (work_of c.job t) → P given.typed.rows given.typed.type script
        by (inl is) = subst (OfServed P) (sym work ∙ is) p
        by (inr is) = absurd (subst (OfServed P) (sym work ∙ is) p)

    kept_plainly : (refused : Bool) (status : Status) → status ≡ cond refused S.Refused S.Done → HeadsAll c t refused → KeepsPlainly c given.typed.rows given.typed.type script status
    kept_plainly refused status status_is heads =
        let P : List Row → TypeNo → List ℕ → Type 0 = λ rows n b. HeadsDone (rules_of rows n) c.before.moment (lines_of b) c.after.moment c.before.output.written c.after.output.written refused in
        record { refused = refused; all = said P heads.script.rows heads.script.type heads.script.bytes heads.script.work heads.all; status_is = status_is }

    by_status : (status : Status) → Says c t status → (status ≡ S.Memory) ⊎ KeepsPlainly c given.typed.rows given.typed.type script status
    by_status S.Done (inl all) = absurd (other_sort _ _ _ here all.script.work refl refl)
    by_status S.Done (inr (inl listed)) = absurd (other_sort _ _ _ here listed.work refl refl)
    by_status S.Done (inr (inr (inl made))) = absurd (other_sort _ _ _ here made.value.work refl refl)
    by_status S.Done (inr (inr (inr (inl shows)))) = absurd (other_sort _ _ _ here shows.1.has.opened.work refl refl)
    by_status S.Done (inr (inr (inr (inr (inl told))))) = absurd (other_sort _ _ _ here told.types.work refl refl)
    by_status S.Done (inr (inr (inr (inr (inr (inl told)))))) = absurd (other_sort _ _ _ here told.proof.work refl refl)
    by_status S.Done (inr (inr (inr (inr (inr (inr (inl heads))))))) = inr (kept_plainly false S.Done refl heads)
    by_status S.Done (inr (inr (inr (inr (inr (inr (inr (inl sought)))))))) = absurd (other_sort _ _ _ here sought.made.sought.work refl refl)
    by_status S.Done (inr (inr (inr (inr (inr (inr (inr (inr named)))))))) = absurd (other_sort _ _ _ here named.has.moved.work refl refl)
    by_status S.Refused (inl all) = absurd (other_sort _ _ _ here all.script.work refl refl)
    by_status S.Refused (inr (inl shows)) = absurd (other_sort _ _ _ here shows.has.opened.work refl refl)
    by_status S.Refused (inr (inr (inl told))) = absurd (other_sort _ _ _ here told.1.types.work refl refl)
    by_status S.Refused (inr (inr (inr (inl told)))) = absurd (other_sort _ _ _ here told.proof.work refl refl)
    by_status S.Refused (inr (inr (inr (inr heads)))) = inr (kept_plainly true S.Refused refl heads)
    by_status S.Memory says = inl refl
    by_status S.SinkFault says = absurd (calm.sink says.0)
    by_status S.Words says = absurd (let e = no_fault F.Words says.due in cc)
    by_status S.Schema says = absurd (let e = no_fault (F.Schema says.0) says.1.due in cc)
    by_status S.Input says = absurd (let e = no_fault (F.Input says.0 says.1) says.2.due in cc)
    by_status S.StoreFault (inl tells) = absurd (let e = no_fault F.Store tells.due in cc)
    by_status S.StoreFault (inr tells) = absurd (let e = no_fault (F.Clash tells.0) tells.1.due in cc)
    by_status S.Root says = absurd (let e = no_fault (F.Root says.0 says.1) says.2.due in cc)
    by_status S.Value (inl says) = absurd (let e = no_fault (F.Value says.0) says.1.due in cc)
    by_status S.Value (inr tells) = absurd (let e = no_fault F.Proof tells.due in cc)

pub kept_by : (c : Call) (script : List ℕ) (given : IsGivenHeads c script) → IsCalm c → (t : Taking) (status : Status) → AreTaken c.job c.before.supply t → Says c t status
    → (status ≡ S.Memory) ⊎ KeepsPlainly c given.typed.rows given.typed.type script status
kept_by c script given calm t status taken says = by_status c script given calm t taken status says
