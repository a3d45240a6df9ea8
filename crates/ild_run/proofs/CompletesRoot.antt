-- Where nothing stands in the way, a value that stands under a root is shown.
use Rattle.std.proofs.Common.{◌≡◌, ◌⊎◌, ℕ, List, Option, Some, None, refl, sym, ap, ◌∙◌, subst, inl, inr}
use Rattle.ild_compile.specs.Compile.{Verdict, table}
use Rattle.ild_compile.proofs.OneVerdict.{one_verdict_lem}
use Rattle.ild_edges.specs.Inputs.{MayBe}
use Rattle.ild_edges.specs.declared.inputs.Taken.{Taken}
use Rattle.ild_json.specs.Printing.{json_text}
use Rattle.ild_schema.specs.Slots.{plainly}
use Rattle.ild_schema.specs.Table.{IsTable}
use Rattle.ild_schema.specs.Value.{Value as Typed}
use Rattle.ild_schema.specs.declared.number.TypeNo.{TypeNo}
use Rattle.ild_schema.specs.declared.row.Row.{Row}
use Rattle.ild_run_show.specs.Shows.{HasShown, NotOpened}
use Rattle.ild_run_show.proofs.OneShown.{shown_stands, none_refused}
use Rattle.ild_typed.specs.Shown.{shown}
use Rattle.ild_run_open.specs.declared.start.Start.{Start}
use Rattle.ild_run.specs.Work.{Work, Taking, ends, lists, answers, makes, opens, root_work, compiled_work, schema_work, job_work, work_of, IsVerdict, IsTaking, AreTaken}
use Rattle.ild_run.specs.Shown.{hash}
use Rattle.ild_run.specs.Words.{Job, shows}
use Rattle.ild_run.specs.Ended.{Call, IsDue, HasRoot, Says}
use Rattle.ild_run.specs.Complete.{IsGivenRoot, IsFaultless, ShownBy, ShowsPlainly}
use Rattle.ild_run.proofs.Matchings.{other_sort}
use Rattle.ild_run.proofs.Namings.{refuses_move}
use Rattle.ild_run.specs.declared.fault.Fault.{Fault}
use Rattle.ild_run.specs.declared.fault.Fault.TheVariants as F
use Rattle.ild_run.specs.declared.fault.Role.{Role}
use Rattle.ild_run.specs.declared.fault.Trouble.TheVariants as T
use Rattle.ild_run.specs.declared.status.Status.{Status}
use Rattle.ild_run.specs.declared.status.Status.TheVariants as S

-- ---- the work

abbrev Opening : Work → List Row → TypeNo → List ℕ → Type 0
Opening w rows n id = (w ≡ opens rows n id) ⊎ (w ≡ ends F.Memory)

abbrev job_in : (c : Call) (v : Typed) → IsGivenRoot c v → Job
job_in c v given = shows given.schema_name given.type_name given.root

compiled_opens : (c : Call) (v : Typed) (given : IsGivenRoot c v) (t : Taking) (verdict : Option Verdict) → IsVerdict (Taken.Bytes given.there.typed.schema.bytes) verdict
    → Opening (compiled_work (job_in c v given) verdict t) given.there.typed.rows given.there.typed.type given.root
compiled_opens c v given t None says = inr refl
compiled_opens c v given t (Some w) says =
    let one : table given.there.typed.rows ≡ w = one_verdict_lem given.there.typed.schema.bytes (table given.there.typed.rows) w given.there.typed.schema.compiles says in
    subst (λ (x : Verdict). Opening (compiled_work (job_in c v given) (Some x) t) given.there.typed.rows given.there.typed.type given.root) one
    (inl (ap (λ x. root_work given.there.typed.rows x given.root) given.there.typed.named))

job_opens : (c : Call) (v : Typed) (given : IsGivenRoot c v) (t : Taking) → IsTaking (job_in c v given) c.before.supply t → Opening (job_work (job_in c v given) t) given.there.typed.rows given.there.typed.type given.root
job_opens c v given t taken =
    let job = job_in c v given in
    let schema_is : t.input Role.Schema ≡ Taken.Bytes given.there.typed.schema.bytes = subst (λ (f : Option (List (List ℕ × List ℕ))). MayBe f given.schema_name (t.input Role.Schema)) given.there.told (taken.input Role.Schema) ∙ given.there.typed.schema.held in
    let same : job_work job t ≡ compiled_work job t.verdict t = ap (λ x. schema_work job x t.verdict t) schema_is in
    subst (λ (w : Work). Opening w given.there.typed.rows given.there.typed.type given.root) (sym same)
    (compiled_opens c v given t t.verdict (subst (λ (x : Taken). IsVerdict x t.verdict) schema_is taken.verdict))

work_opens : (c : Call) (v : Typed) (given : IsGivenRoot c v) (t : Taking) → AreTaken c.job c.before.supply t → Opening (work_of c.job t) given.there.typed.rows given.there.typed.type given.root
work_opens c v given t taken =
    subst (λ (w : Work). Opening w given.there.typed.rows given.there.typed.type given.root) (sym (ap (λ j. work_of j t) given.job)) (job_opens c v given t (subst (λ (j : Option Job). AreTaken j c.before.supply t) given.job taken))

-- ---- what it is not

no_end : (w : Work) (f : Fault) (rows : List Row) (n : TypeNo) (id : List ℕ) → Opening w rows n id → (f ≡ F.Memory → ⊥) → w ≡ ends f → ⊥
no_end w f rows n id (inl is) other ended = let e : opens rows n id ≡ ends f = sym is ∙ ended in cc
no_end w f rows n id (inr is) other ended = other (let e : ends F.Memory ≡ ends f = sym is ∙ ended in cc)

no_answers : (w : Work) (rows : List Row) (n : TypeNo) (id : List ℕ) (run : List Row) (m : TypeNo) (start : Start) (script : List ℕ) → Opening w rows n id → w ≡ answers run m start script → ⊥
no_answers w rows n id run m start script (inl is) work = let e : opens rows n id ≡ answers run m start script = sym is ∙ work in cc
no_answers w rows n id run m start script (inr is) work = let e : ends F.Memory ≡ answers run m start script = sym is ∙ work in cc

no_list : (w : Work) (names : List (List ℕ)) (rows : List Row) (n : TypeNo) (id : List ℕ) → Opening w rows n id → w ≡ lists names → ⊥
no_list w names rows n id (inl is) listed = let e : opens rows n id ≡ lists names = sym is ∙ listed in cc
no_list w names rows n id (inr is) listed = let e : ends F.Memory ≡ lists names = sym is ∙ listed in cc

no_value : (w : Work) (made : List Row) (m : TypeNo) (b : List ℕ) (rows : List Row) (n : TypeNo) (id : List ℕ) → Opening w rows n id → w ≡ makes made m b → ⊥
no_value w made m b rows n id (inl is) work = let e : opens rows n id ≡ makes made m b = sym is ∙ work in cc
no_value w made m b rows n id (inr is) work = let e : ends F.Memory ≡ makes made m b = sym is ∙ work in cc

-- what is said of the root that is opened
abbrev OfOpened : (List Row → TypeNo → List ℕ → Type 0) → Work → Type 0
OfOpened P (opens rows n id) = P rows n id
OfOpened P w = ⊥

said : (P : List Row → TypeNo → List ℕ → Type 0) (w : Work) (rows opened : List Row) (n m : TypeNo) (id j : List ℕ) → Opening w rows n id → w ≡ opens opened m j → P opened m j → P rows n id
said P w rows opened n m id j (inl is) work p = subst (OfOpened P) (sym work ∙ is) p
said P w rows opened n m id j (inr is) work p = absurd (subst (OfOpened P) (sym work ∙ is) p)

-- ---- the value

-- of an accepted table
record IsOfTable (P : List Row → TypeNo → List ℕ → Type 0) (rows : List Row) (n : TypeNo) (id : List ℕ) : Type 0 where
  table : IsTable rows
  holds : P rows n id

no_fault : (c : Call) (v : Typed) (given : IsGivenRoot c v) → IsFaultless c → (t : Taking) (f : Fault) → AreTaken c.job c.before.supply t → IsDue c t f → f ≡ F.Memory
no_fault c v given calm t F.Memory taken due = refl
no_fault c v given calm t F.Words taken due = absurd (no_end (work_of c.job t) F.Words given.there.typed.rows given.there.typed.type given.root (work_opens c v given t taken) (λ e. cc) due)
no_fault c v given calm t (F.Schema f) taken due = absurd (no_end (work_of c.job t) (F.Schema f) given.there.typed.rows given.there.typed.type given.root (work_opens c v given t taken) (λ e. cc) due)
no_fault c v given calm t (F.Input role T.Failed) taken due = absurd (calm.calm.inputs due.0)
no_fault c v given calm t (F.Input role T.Absent) taken due = absurd (no_end (work_of c.job t) (F.Input role T.Absent) given.there.typed.rows given.there.typed.type given.root (work_opens c v given t taken) (λ e. cc) due.0)
no_fault c v given calm t (F.Input role T.Long) taken due = absurd (no_end (work_of c.job t) (F.Input role T.Long) given.there.typed.rows given.there.typed.type given.root (work_opens c v given t taken) (λ e. cc) due.0)
no_fault c v given calm t F.Store taken due = absurd (calm.store due.0)
no_fault c v given calm t (F.Clash id) taken (inl due) = absurd (no_answers (work_of c.job t) given.there.typed.rows given.there.typed.type given.root due.script.rows due.script.type due.script.start due.script.bytes (work_opens c v given t taken) due.script.work)
no_fault c v given calm t (F.Clash id) taken (inr (inr moved)) = absurd (other_sort _ _ _ (work_opens c v given t taken) moved.moved.work refl refl)
no_fault c v given calm t (F.Clash id) taken (inr (inl clash)) = absurd (no_value (work_of c.job t) clash.value.rows clash.value.type clash.value.bytes given.there.typed.rows given.there.typed.type given.root (work_opens c v given t taken) clash.value.work)
no_fault c v given calm t (F.Value r) taken (inl due) = absurd (let x = due.1 in no_answers (work_of c.job t) given.there.typed.rows given.there.typed.type given.root x.script.rows x.script.type x.script.start x.script.bytes (work_opens c v given t taken) x.script.work)
no_fault c v given calm t (F.Value r) taken (inr (inr moved)) = absurd (other_sort _ _ _ (work_opens c v given t taken) (refuses_move c t r moved).work refl refl)
no_fault c v given calm t (F.Value r) taken (inr (inl due)) = absurd (no_value (work_of c.job t) due.value.rows due.value.type due.value.bytes given.there.typed.rows given.there.typed.type given.root (work_opens c v given t taken) due.value.work)
no_fault c v given calm t F.Proof taken due = absurd (other_sort _ _ _ (work_opens c v given t taken) due.proof.work refl refl)
no_fault c v given calm t (F.Root id why) taken (inl due) = absurd (no_answers (work_of c.job t) given.there.typed.rows given.there.typed.type given.root due.script.rows due.script.type due.script.start due.script.bytes (work_opens c v given t taken) due.script.work)
no_fault c v given calm t (F.Root id why) taken (inr (inr (inr moved))) = absurd (other_sort _ _ _ (work_opens c v given t taken) moved.moved.work refl refl)
no_fault c v given calm t (F.Root id why) taken (inr (inr (inl due))) = absurd (other_sort _ _ _ (work_opens c v given t taken) due.sought.work refl refl)
no_fault c v given calm t (F.Root id why) taken (inr (inl due)) =
    let P : List Row → TypeNo → List ℕ → Type 0 = λ rows n root. NotOpened hash rows n root c.before.moment id.0 why c.after.moment in
    let it = said P (work_of c.job t) given.there.typed.rows due.opened.rows given.there.typed.type due.opened.type given.root due.opened.root (work_opens c v given t taken) due.opened.work due.refused in
    absurd (none_refused hash given.there.typed.rows given.there.typed.type given.root v c.before.moment c.after.moment id.0 why given.there.held given.there.store given.there.stands it)

-- the JSON is that of this value's shown form
same_json : (c : Call) (v : Typed) (given : IsGivenRoot c v) (t : Taking) (json : Option (List ℕ)) → AreTaken c.job c.before.supply t → HasRoot c t json → json_text (shown given.there.typed.rows (plainly given.there.typed.type) v) ≡ json
same_json c v given t json taken has =
    let P : List Row → TypeNo → List ℕ → Type 0 = IsOfTable (λ rows n root. HasShown hash rows n root c.after.moment json) in
    let it = said P (work_of c.job t) given.there.typed.rows has.opened.rows given.there.typed.type has.opened.type given.root has.opened.root (work_opens c v given t taken) has.opened.work (record { table = has.table; holds = has.shown }) in
    shown_stands hash given.there.typed.rows (record { table = it.table; accepted = given.there.typed.schema.compiles.accepted }) given.there.typed.type given.root v c.after.moment json given.there.held (has.reads.blocks ∙ given.there.store) given.there.stands it.holds

pub shown_by : (c : Call) (v : Typed) (given : IsGivenRoot c v) → IsFaultless c → (t : Taking) (status : Status) → AreTaken c.job c.before.supply t → Says c t status → (status ≡ S.Memory) ⊎ ShowsPlainly c given.there.typed.rows given.there.typed.type v status
shown_by c v given calm t S.Done taken (inl all) = absurd (no_answers (work_of c.job t) given.there.typed.rows given.there.typed.type given.root all.script.rows all.script.type all.script.start all.script.bytes (work_opens c v given t taken) all.script.work)
shown_by c v given calm t S.Done taken (inr (inl listed)) = absurd (no_list (work_of c.job t) listed.names given.there.typed.rows given.there.typed.type given.root (work_opens c v given t taken) listed.work)
shown_by c v given calm t S.Done taken (inr (inr (inl made))) = absurd (no_value (work_of c.job t) made.value.rows made.value.type made.value.bytes given.there.typed.rows given.there.typed.type given.root (work_opens c v given t taken) made.value.work)
shown_by c v given calm t S.Done taken (inr (inr (inr (inr (inl told))))) = absurd (other_sort _ _ _ (work_opens c v given t taken) told.types.work refl refl)
shown_by c v given calm t S.Done taken (inr (inr (inr (inr (inr (inl told)))))) = absurd (other_sort _ _ _ (work_opens c v given t taken) told.proof.work refl refl)
shown_by c v given calm t S.Done taken (inr (inr (inr (inr (inr (inr (inl all))))))) = absurd (other_sort _ _ _ (work_opens c v given t taken) all.script.work refl refl)
shown_by c v given calm t S.Done taken (inr (inr (inr (inr (inr (inr (inr (inl sought)))))))) = absurd (other_sort _ _ _ (work_opens c v given t taken) sought.made.sought.work refl refl)
shown_by c v given calm t S.Done taken (inr (inr (inr (inr (inr (inr (inr (inr named)))))))) = absurd (other_sort _ _ _ (work_opens c v given t taken) named.has.moved.work refl refl)
shown_by c v given calm t S.Done taken (inr (inr (inr (inl there)))) =
    inr (subst (ShownBy c S.Done) (sym (same_json c v given t (Some there.0) taken there.1.has)) (refl, there.1.written))
shown_by c v given calm t S.Refused taken (inl all) = absurd (no_answers (work_of c.job t) given.there.typed.rows given.there.typed.type given.root all.script.rows all.script.type all.script.start all.script.bytes (work_opens c v given t taken) all.script.work)
shown_by c v given calm t S.Refused taken (inr (inr (inl told))) = absurd (other_sort _ _ _ (work_opens c v given t taken) told.1.types.work refl refl)
shown_by c v given calm t S.Refused taken (inr (inr (inr (inl told)))) = absurd (other_sort _ _ _ (work_opens c v given t taken) told.proof.work refl refl)
shown_by c v given calm t S.Refused taken (inr (inr (inr (inr all)))) = absurd (other_sort _ _ _ (work_opens c v given t taken) all.script.work refl refl)
shown_by c v given calm t S.Refused taken (inr (inl there)) = inr (subst (ShownBy c S.Refused) (sym (same_json c v given t None taken there.has)) (refl, there.written))
shown_by c v given calm t S.Memory taken says = inl refl
shown_by c v given calm t S.SinkFault taken says = absurd (calm.calm.sink says.0)
shown_by c v given calm t S.Words taken says = absurd (let e = no_fault c v given calm t F.Words taken says.due in cc)
shown_by c v given calm t S.Schema taken tells = absurd (let e = no_fault c v given calm t (F.Schema tells.0) taken tells.1.due in cc)
shown_by c v given calm t S.Input taken says = absurd (let e = no_fault c v given calm t (F.Input says.0 says.1) taken says.2.due in cc)
shown_by c v given calm t S.StoreFault taken (inl tells) = absurd (let e = no_fault c v given calm t F.Store taken tells.due in cc)
shown_by c v given calm t S.StoreFault taken (inr tells) = absurd (let e = no_fault c v given calm t (F.Clash tells.0) taken tells.1.due in cc)
shown_by c v given calm t S.Root taken says = absurd (let e = no_fault c v given calm t (F.Root says.0 says.1) taken says.2.due in cc)
shown_by c v given calm t S.Value taken (inl says) = absurd (let e = no_fault c v given calm t (F.Value says.0) taken says.1.due in cc)
shown_by c v given calm t S.Value taken (inr tells) = absurd (let e = no_fault c v given calm t F.Proof taken tells.due in cc)
