-- Where nothing stands in the way, what stands at a path in a value that stands under a root is proved.
use Rattle.std.proofs.Common.{◌≡◌, ◌⊎◌, ℕ, List, Option, Some, None, refl, sym, ap, ◌∙◌, subst, inl, inr}
use Rattle.ild_compile.specs.Compile.{Verdict, table}
use Rattle.ild_compile.proofs.OneVerdict.{one_verdict_lem}
use Rattle.ild_edges.specs.Inputs.{MayBe}
use Rattle.ild_edges.specs.declared.inputs.Taken.{Taken}
use Rattle.ild_run_prove.specs.Proved.{HasProof, NotProved}
use Rattle.ild_schema.specs.Value.{Value as Typed}
use Rattle.ild_schema.specs.declared.number.TypeNo.{TypeNo}
use Rattle.ild_schema.specs.declared.row.Row.{Row}
use Rattle.ild_run.specs.Work.{Work, Taking, ends, seeks, seek_work, compiled_work, schema_work, job_work, work_of, IsVerdict, IsTaking, AreTaken}
use Rattle.ild_run.specs.Words.{Job, proves}
use Rattle.ild_run.specs.Ended.{Call, IsDue, WritesProof, Says}
use Rattle.ild_run.specs.Complete.{IsGivenPath, IsFaultless, ProvesPlainly}
use Rattle.ild_run.specs.Shown.{hash}
use Rattle.ild_run.specs.declared.fault.Fault.{Fault}
use Rattle.ild_run.specs.declared.fault.Fault.TheVariants as F
use Rattle.ild_run.specs.declared.fault.Role.{Role}
use Rattle.ild_run.specs.declared.fault.Trouble.TheVariants as T
use Rattle.ild_run.specs.declared.status.Status.{Status}
use Rattle.ild_run.specs.declared.status.Status.TheVariants as S
use Rattle.ild_run.proofs.Matchings.{other_sort}
use Rattle.ild_run.proofs.Namings.{refuses_move}

abbrev Seeking : Work → List Row → TypeNo → List ℕ → List (List ℕ) → Type 0
Seeking w rows n id path = (w ≡ seeks rows n id path) ⊎ (w ≡ ends F.Memory)

-- what is said of the path that is sought
abbrev OfSought : (List Row → TypeNo → List ℕ → List (List ℕ) → Type 0) → Work → Type 0
OfSought P (seeks rows n id path) = P rows n id path
OfSought P w = ⊥

no_end : (w : Work) (f : Fault) (rows : List Row) (n : TypeNo) (id : List ℕ) (path : List (List ℕ)) → Seeking w rows n id path → (f ≡ F.Memory → ⊥) → w ≡ ends f → ⊥
no_end w f rows n id path (inl is) other ended = let e : seeks rows n id path ≡ ends f = sym is ∙ ended in cc
no_end w f rows n id path (inr is) other ended = other (let e : ends F.Memory ≡ ends f = sym is ∙ ended in cc)

module _ (c : Call) (v : Typed) (given : IsGivenPath c v) where
  abbrev job : Job
  job = proves given.schema_name given.type_name given.root given.path

  abbrev IsSeeking : Work → Type 0
  IsSeeking w = Seeking w given.there.typed.rows given.there.typed.type given.root given.path

  -- ---- the work

  compiled_seeks : (t : Taking) (verdict : Option Verdict) → IsVerdict (Taken.Bytes given.there.typed.schema.bytes) verdict → IsSeeking (compiled_work job verdict t)
  compiled_seeks t None says = inr refl
  compiled_seeks t (Some w) says =
      let one : table given.there.typed.rows ≡ w = one_verdict_lem given.there.typed.schema.bytes (table given.there.typed.rows) w given.there.typed.schema.compiles says in
      subst (λ (x : Verdict). IsSeeking (compiled_work job (Some x) t)) one (inl (ap (λ x. seek_work given.there.typed.rows x given.root given.path) given.there.typed.named))

  job_seeks : (t : Taking) → IsTaking job c.before.supply t → IsSeeking (job_work job t)
  job_seeks t taken =
      let schema_is : t.input Role.Schema ≡ Taken.Bytes given.there.typed.schema.bytes =
      subst (λ (f : Option (List (List ℕ × List ℕ))). MayBe f given.schema_name (t.input Role.Schema)) given.there.told (taken.input Role.Schema) ∙ given.there.typed.schema.held in
      let same : job_work job t ≡ compiled_work job t.verdict t = ap (λ x. schema_work job x t.verdict t) schema_is in
      subst IsSeeking (sym same) (compiled_seeks t t.verdict (subst (λ (x : Taken). IsVerdict x t.verdict) schema_is taken.verdict))

  module _ (calm : IsFaultless c) (t : Taking) (taken : AreTaken c.job c.before.supply t) where
    here : IsSeeking (work_of c.job t)
    here = subst IsSeeking (sym (ap (λ j. work_of j t) given.job)) (job_seeks t (subst (λ (j : Option Job). AreTaken j c.before.supply t) given.job taken))

    said : (P : List Row → TypeNo → List ℕ → List (List ℕ) → Type 0) (rows : List Row) (n : TypeNo) (id : List ℕ) (path : List (List ℕ)) → work_of c.job t ≡ seeks rows n id path → P rows n id path
        → P given.there.typed.rows given.there.typed.type given.root given.path
    said P rows n id path work p = by here
      where
        by : IsSeeking (work_of c.job t) → P given.there.typed.rows given.there.typed.type given.root given.path
        by (inl is) = subst (OfSought P) (sym work ∙ is) p
        by (inr is) = absurd (subst (OfSought P) (sym work ∙ is) p)

    -- ---- what it is not

    ends_not : (f : Fault) → (f ≡ F.Memory → ⊥) → work_of c.job t ≡ ends f → ⊥
    ends_not f other ended = no_end (work_of c.job t) f given.there.typed.rows given.there.typed.type given.root given.path here other ended

    no_fault : (f : Fault) → IsDue c t f → f ≡ F.Memory
    no_fault F.Memory due = refl
    no_fault F.Words due = absurd (ends_not F.Words (λ e. cc) due)
    no_fault (F.Schema f) due = absurd (ends_not (F.Schema f) (λ e. cc) due)
    no_fault (F.Input role T.Failed) due = absurd (calm.calm.inputs due.0)
    no_fault (F.Input role T.Absent) due = absurd (ends_not (F.Input role T.Absent) (λ e. cc) due.0)
    no_fault (F.Input role T.Long) due = absurd (ends_not (F.Input role T.Long) (λ e. cc) due.0)
    no_fault F.Store due = absurd (calm.store due.0)
    no_fault (F.Clash id) (inl due) = absurd (other_sort _ _ _ here due.script.work refl refl)
    no_fault (F.Clash id) (inr (inr moved)) = absurd (other_sort _ _ _ here moved.moved.work refl refl)
    no_fault (F.Clash id) (inr (inl due)) = absurd (other_sort _ _ _ here due.value.work refl refl)
    no_fault (F.Value r) (inl due) = absurd (other_sort _ _ _ here due.1.script.work refl refl)
    no_fault (F.Value r) (inr (inr moved)) = absurd (other_sort _ _ _ here (refuses_move c t r moved).work refl refl)
    no_fault (F.Value r) (inr (inl due)) = absurd (other_sort _ _ _ here due.value.work refl refl)
    no_fault F.Proof due = absurd (other_sort _ _ _ here due.proof.work refl refl)
    no_fault (F.Root id why) (inl due) = absurd (other_sort _ _ _ here due.script.work refl refl)
    no_fault (F.Root id why) (inr (inl due)) = absurd (other_sort _ _ _ here due.opened.work refl refl)
    no_fault (F.Root id why) (inr (inr (inr moved))) = absurd (other_sort _ _ _ here moved.moved.work refl refl)
    no_fault (F.Root id why) (inr (inr (inl due))) =
        let P : List Row → TypeNo → List ℕ → List (List ℕ) → Type 0 = λ rows n root path. NotProved hash rows n root path c.before.moment id.0 why c.after.moment in
        let it = said P due.sought.rows due.sought.type due.sought.root due.sought.path due.sought.work due.refused in
        absurd (it.none given.there.held v given.there.store given.there.stands)

    -- ---- what it is

    proved_plainly : WritesProof c t → ProvesPlainly c v given S.Done
    proved_plainly wrote =
        let sought = wrote.made.sought in
        let P : List Row → TypeNo → List ℕ → List (List ℕ) → Type 0 = λ rows n root path. HasProof hash rows n root path c.before.moment wrote.json in
        let it = said P sought.rows sought.type sought.root sought.path sought.work wrote.made.proved.answer in
        record { status_is = refl; json = wrote.json; proof = it; proves = it.held given.there.held v given.there.store given.there.stands; written = wrote.written }

    by_status : (status : Status) → Says c t status → (status ≡ S.Memory) ⊎ ProvesPlainly c v given status
    by_status S.Done (inl all) = absurd (other_sort _ _ _ here all.script.work refl refl)
    by_status S.Done (inr (inl listed)) = absurd (other_sort _ _ _ here listed.work refl refl)
    by_status S.Done (inr (inr (inl made))) = absurd (other_sort _ _ _ here made.value.work refl refl)
    by_status S.Done (inr (inr (inr (inl shows)))) = absurd (other_sort _ _ _ here shows.1.has.opened.work refl refl)
    by_status S.Done (inr (inr (inr (inr (inl told))))) = absurd (other_sort _ _ _ here told.types.work refl refl)
    by_status S.Done (inr (inr (inr (inr (inr (inl told)))))) = absurd (other_sort _ _ _ here told.proof.work refl refl)
    by_status S.Done (inr (inr (inr (inr (inr (inr (inl all))))))) = absurd (other_sort _ _ _ here all.script.work refl refl)
    by_status S.Done (inr (inr (inr (inr (inr (inr (inr (inl wrote)))))))) = inr (proved_plainly wrote)
    by_status S.Done (inr (inr (inr (inr (inr (inr (inr (inr named)))))))) = absurd (other_sort _ _ _ here named.has.moved.work refl refl)
    by_status S.Refused (inl all) = absurd (other_sort _ _ _ here all.script.work refl refl)
    by_status S.Refused (inr (inl shows)) = absurd (other_sort _ _ _ here shows.has.opened.work refl refl)
    by_status S.Refused (inr (inr (inl told))) = absurd (other_sort _ _ _ here told.1.types.work refl refl)
    by_status S.Refused (inr (inr (inr (inl told)))) = absurd (other_sort _ _ _ here told.proof.work refl refl)
    by_status S.Refused (inr (inr (inr (inr all)))) = absurd (other_sort _ _ _ here all.script.work refl refl)
    by_status S.Memory says = inl refl
    by_status S.SinkFault says = absurd (calm.calm.sink says.0)
    by_status S.Words says = absurd (let e = no_fault F.Words says.due in cc)
    by_status S.Schema says = absurd (let e = no_fault (F.Schema says.0) says.1.due in cc)
    by_status S.Input says = absurd (let e = no_fault (F.Input says.0 says.1) says.2.due in cc)
    by_status S.StoreFault (inl tells) = absurd (let e = no_fault F.Store tells.due in cc)
    by_status S.StoreFault (inr tells) = absurd (let e = no_fault (F.Clash tells.0) tells.1.due in cc)
    by_status S.Root says = absurd (let e = no_fault (F.Root says.0 says.1) says.2.due in cc)
    by_status S.Value (inl says) = absurd (let e = no_fault (F.Value says.0) says.1.due in cc)
    by_status S.Value (inr tells) = absurd (let e = no_fault F.Proof tells.due in cc)

pub proved_by : (c : Call) (v : Typed) (given : IsGivenPath c v) → IsFaultless c → (t : Taking) (status : Status) → AreTaken c.job c.before.supply t → Says c t status → (status ≡ S.Memory) ⊎ ProvesPlainly c v given status
proved_by c v given calm t status taken says = by_status c v given calm t taken status says
