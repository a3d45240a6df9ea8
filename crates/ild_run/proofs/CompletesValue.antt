-- Where nothing stands in the way, a value that a store can hold is created.
use Rattle.std.specs.Prelude.{Contains}
use Rattle.std.proofs.Common.{◌≡◌, ◌⊎◌, ℕ, List, Option, Some, None, refl, sym, ap, ◌∙◌, subst, inl, inr}
use Rattle.ild_compile.specs.Compile.{Verdict, table}
use Rattle.ild_compile.proofs.OneVerdict.{one_verdict_lem}
use Rattle.ild_run_create.specs.Creates.{Created, Clashes}
use Rattle.ild_run_create.specs.Refuses.{IsFirst}
use Rattle.ild_run_create.proofs.Outcomes.{one_made, made_unrefused}
use Rattle.ild_data.specs.Data.{Data}
use Rattle.ild_edges.specs.Inputs.{MayBe}
use Rattle.ild_edges.specs.Store.{block_at}
use Rattle.ild_edges.specs.Told.{IfTold}
use Rattle.ild_edges.specs.declared.inputs.Taken.{Taken}
use Rattle.ild_schema.specs.Names.{number_named}
use Rattle.ild_schema.specs.Table.{IsTable}
use Rattle.ild_schema.specs.Value.{Value as Typed}
use Rattle.ild_schema.specs.declared.number.TypeNo.{TypeNo}
use Rattle.ild_schema.specs.declared.row.Row.{Row}
use Rattle.ild_typed.specs.Stands.{bare, root_id, blocks_of, Stands}
use Rattle.ild_run_open.specs.declared.start.Start.{Start}
use Rattle.ild_run.specs.Work.{Work, Taking, ends, lists, answers, makes, opens, type_work, compiled_work, schema_work, job_work, work_of, IsVerdict, IsTaking, AreTaken}
use Rattle.ild_run.specs.Shown.{hash}
use Rattle.ild_run.specs.Words.{Job, creates}
use Rattle.ild_run.specs.Ended.{Call, IsDue, CreatesValue, Says}
use Rattle.ild_run.specs.Complete.{IsGivenValue, LetsCreate, CreatesPlainly}
use Rattle.ild_run.proofs.Matchings.{other_sort}
use Rattle.ild_run.proofs.Namings.{refuses_move}
use Rattle.ild_run.specs.declared.fault.Fault.{Fault}
use Rattle.ild_run.specs.declared.fault.Fault.TheVariants as F
use Rattle.ild_run.specs.declared.fault.Role.{Role}
use Rattle.ild_run.specs.declared.fault.Trouble.TheVariants as T
use Rattle.ild_run.specs.declared.status.Status.{Status}
use Rattle.ild_run.specs.declared.status.Status.TheVariants as S

-- ---- the work

abbrev Creating : Work → List Row → TypeNo → List ℕ → Type 0
Creating w rows n b = (w ≡ makes rows n b) ⊎ (w ≡ ends F.Memory)

named_makes : (rows : List Row) (n : TypeNo) (b : List ℕ) (found : Option ℕ) (taken : Taken) → found ≡ Some n.0 → taken ≡ Taken.Bytes b → Creating (type_work rows found taken) rows n b
named_makes rows n b found taken named held =
    let same : type_work rows found taken ≡ makes rows n b = ap (λ x. type_work rows x taken) named ∙ ap (λ x. type_work rows (Some n.0) x) held in
    inl same

abbrev job_in : (c : Call) (v : Typed) (d : Data) → IsGivenValue c v d → Job
job_in c v d given = creates given.schema_name given.type_name given.value_name

compiled_makes : (c : Call) (v : Typed) (d : Data) (given : IsGivenValue c v d) (t : Taking) (verdict : Option Verdict) → t.input Role.Value ≡ Taken.Bytes given.bytes
    → IsVerdict (Taken.Bytes given.typed.schema.bytes) verdict → Creating (compiled_work (job_in c v d given) verdict t) given.typed.rows given.typed.type given.bytes
compiled_makes c v d given t None held says = inr refl
compiled_makes c v d given t (Some w) held says =
    let one : table given.typed.rows ≡ w = one_verdict_lem given.typed.schema.bytes (table given.typed.rows) w given.typed.schema.compiles says in
    subst (λ (x : Verdict). Creating (compiled_work (job_in c v d given) (Some x) t) given.typed.rows given.typed.type given.bytes) one
    (named_makes given.typed.rows given.typed.type given.bytes (number_named given.type_name given.typed.rows) (t.input Role.Value) given.typed.named held)

job_makes : (c : Call) (v : Typed) (d : Data) (given : IsGivenValue c v d) (t : Taking) → IsTaking (job_in c v d given) c.before.supply t → Creating (job_work (job_in c v d given) t) given.typed.rows given.typed.type given.bytes
job_makes c v d given t taken =
    let job = job_in c v d given in
    let schema_is : t.input Role.Schema ≡ Taken.Bytes given.typed.schema.bytes = subst (λ (f : Option (List (List ℕ × List ℕ))). MayBe f given.schema_name (t.input Role.Schema)) given.told (taken.input Role.Schema) ∙ given.typed.schema.held in
    let value_is : t.input Role.Value ≡ Taken.Bytes given.bytes = subst (λ (f : Option (List (List ℕ × List ℕ))). MayBe f given.value_name (t.input Role.Value)) given.told (taken.input Role.Value) ∙ given.value_held in
    let same : job_work job t ≡ compiled_work job t.verdict t = ap (λ x. schema_work job x t.verdict t) schema_is in
    subst (λ (w : Work). Creating w given.typed.rows given.typed.type given.bytes) (sym same)
    (compiled_makes c v d given t t.verdict value_is (subst (λ (x : Taken). IsVerdict x t.verdict) schema_is taken.verdict))

work_makes : (c : Call) (v : Typed) (d : Data) (given : IsGivenValue c v d) (t : Taking) → AreTaken c.job c.before.supply t → Creating (work_of c.job t) given.typed.rows given.typed.type given.bytes
work_makes c v d given t taken =
    subst (λ (w : Work). Creating w given.typed.rows given.typed.type given.bytes) (sym (ap (λ j. work_of j t) given.job)) (job_makes c v d given t (subst (λ (j : Option Job). AreTaken j c.before.supply t) given.job taken))

-- ---- what it is not

no_end : (w : Work) (f : Fault) (rows : List Row) (n : TypeNo) (b : List ℕ) → Creating w rows n b → (f ≡ F.Memory → ⊥) → w ≡ ends f → ⊥
no_end w f rows n b (inl is) other ended = let e : makes rows n b ≡ ends f = sym is ∙ ended in cc
no_end w f rows n b (inr is) other ended = other (let e : ends F.Memory ≡ ends f = sym is ∙ ended in cc)

no_answers : (w : Work) (rows : List Row) (n : TypeNo) (b : List ℕ) (run : List Row) (m : TypeNo) (start : Start) (script : List ℕ) → Creating w rows n b → w ≡ answers run m start script → ⊥
no_answers w rows n b run m start script (inl is) work = let e : makes rows n b ≡ answers run m start script = sym is ∙ work in cc
no_answers w rows n b run m start script (inr is) work = let e : ends F.Memory ≡ answers run m start script = sym is ∙ work in cc

no_list : (w : Work) (names : List (List ℕ)) (rows : List Row) (n : TypeNo) (b : List ℕ) → Creating w rows n b → w ≡ lists names → ⊥
no_list w names rows n b (inl is) listed = let e : makes rows n b ≡ lists names = sym is ∙ listed in cc
no_list w names rows n b (inr is) listed = let e : ends F.Memory ≡ lists names = sym is ∙ listed in cc

no_root : (w : Work) (opened : List Row) (m : TypeNo) (id : List ℕ) (rows : List Row) (n : TypeNo) (b : List ℕ) → Creating w rows n b → w ≡ opens opened m id → ⊥
no_root w opened m id rows n b (inl is) work = let e : makes rows n b ≡ opens opened m id = sym is ∙ work in cc
no_root w opened m id rows n b (inr is) work = let e : ends F.Memory ≡ opens opened m id = sym is ∙ work in cc

-- what is said of the value that is made
abbrev OfMade : (List Row → TypeNo → List ℕ → Type 0) → Work → Type 0
OfMade P (makes rows n b) = P rows n b
OfMade P w = ⊥

said : (P : List Row → TypeNo → List ℕ → Type 0) (w : Work) (rows made : List Row) (n m : TypeNo) (b c : List ℕ) → Creating w rows n b → w ≡ makes made m c → P made m c → P rows n b
said P w rows made n m b c (inl is) work p = subst (OfMade P) (sym work ∙ is) p
said P w rows made n m b c (inr is) work p = absurd (subst (OfMade P) (sym work ∙ is) p)

-- ---- the value

-- of an accepted table
record IsOfTable (P : List Row → TypeNo → List ℕ → Type 0) (rows : List Row) (n : TypeNo) (b : List ℕ) : Type 0 where
  table : IsTable rows
  holds : P rows n b

no_fault : (c : Call) (v : Typed) (d : Data) (given : IsGivenValue c v d) → LetsCreate c given.typed.rows given.typed.type v d → (t : Taking) (f : Fault) → AreTaken c.job c.before.supply t → IsDue c t f → f ≡ F.Memory
no_fault c v d given calm t F.Memory taken due = refl
no_fault c v d given calm t F.Words taken due = absurd (no_end (work_of c.job t) F.Words given.typed.rows given.typed.type given.bytes (work_makes c v d given t taken) (λ e. cc) due)
no_fault c v d given calm t (F.Schema f) taken due = absurd (no_end (work_of c.job t) (F.Schema f) given.typed.rows given.typed.type given.bytes (work_makes c v d given t taken) (λ e. cc) due)
no_fault c v d given calm t (F.Input role T.Failed) taken due = absurd (calm.faultless.calm.inputs due.0)
no_fault c v d given calm t (F.Input role T.Absent) taken due = absurd (no_end (work_of c.job t) (F.Input role T.Absent) given.typed.rows given.typed.type given.bytes (work_makes c v d given t taken) (λ e. cc) due.0)
no_fault c v d given calm t (F.Input role T.Long) taken due = absurd (no_end (work_of c.job t) (F.Input role T.Long) given.typed.rows given.typed.type given.bytes (work_makes c v d given t taken) (λ e. cc) due.0)
no_fault c v d given calm t F.Store taken due = absurd (calm.faultless.store due.0)
no_fault c v d given calm t (F.Clash id) taken (inl due) = absurd (no_answers (work_of c.job t) given.typed.rows given.typed.type given.bytes due.script.rows due.script.type due.script.start due.script.bytes (work_makes c v d given t taken) due.script.work)
no_fault c v d given calm t (F.Clash id) taken (inr (inr moved)) = absurd (other_sort _ _ _ (work_makes c v d given t taken) moved.moved.work refl refl)
no_fault c v d given calm t (F.Clash id) taken (inr (inl clash)) =
    let P : List Row → TypeNo → List ℕ → Type 0 = IsOfTable (λ rows n b. Clashes hash rows n b c.before.moment c.after.moment id.0) in
    let it = said P (work_of c.job t) given.typed.rows clash.value.rows given.typed.type clash.value.type given.bytes clash.value.bytes (work_makes c v d given t taken) clash.value.work (record { table = clash.table; holds = clash.clash }) in
    let tried = it.holds.tried in
    let same = one_made hash given.typed.rows (record { table = it.table; accepted = given.typed.schema.compiles.accepted }) given.typed.type given.bytes tried.value v tried.tree d tried.makes given.makes in
    let hit = it.holds.hit in
    let among : Contains (blocks_of bare hash given.typed.rows given.typed.type v d) hit.new =
    subst (λ (x : Typed). Contains (blocks_of bare hash given.typed.rows given.typed.type x d) hit.new) same.0
    (subst (λ (x : Data). Contains (blocks_of bare hash given.typed.rows given.typed.type tried.value x) hit.new) same.1 hit.among) in
    absurd (calm.apart hit.kept hit.new among hit.held hit.collide)
no_fault c v d given calm t F.Proof taken due = absurd (other_sort _ _ _ (work_makes c v d given t taken) due.proof.work refl refl)
no_fault c v d given calm t (F.Root id why) taken (inl due) = absurd (no_answers (work_of c.job t) given.typed.rows given.typed.type given.bytes due.script.rows due.script.type due.script.start due.script.bytes (work_makes c v d given t taken) due.script.work)
no_fault c v d given calm t (F.Root id why) taken (inr (inr (inr moved))) = absurd (other_sort _ _ _ (work_makes c v d given t taken) moved.moved.work refl refl)
no_fault c v d given calm t (F.Root id why) taken (inr (inr (inl due))) = absurd (other_sort _ _ _ (work_makes c v d given t taken) due.sought.work refl refl)
no_fault c v d given calm t (F.Root id why) taken (inr (inl due)) = absurd (no_root (work_of c.job t) due.opened.rows due.opened.type due.opened.root given.typed.rows given.typed.type given.bytes (work_makes c v d given t taken) due.opened.work)
no_fault c v d given calm t (F.Value r) taken (inl due) = absurd (let x = due.1 in no_answers (work_of c.job t) given.typed.rows given.typed.type given.bytes x.script.rows x.script.type x.script.start x.script.bytes (work_makes c v d given t taken) x.script.work)
no_fault c v d given calm t (F.Value r) taken (inr (inr moved)) = absurd (other_sort _ _ _ (work_makes c v d given t taken) (refuses_move c t r moved).work refl refl)
no_fault c v d given calm t (F.Value r) taken (inr (inl due)) =
    let P : List Row → TypeNo → List ℕ → Type 0 = IsOfTable (λ rows n b. IsFirst hash rows n b r) in
    let it = said P (work_of c.job t) given.typed.rows due.value.rows given.typed.type due.value.type given.bytes due.value.bytes (work_makes c v d given t taken) due.value.work (record { table = due.table; holds = due.refused }) in
    absurd (made_unrefused hash given.typed.rows (record { table = it.table; accepted = given.typed.schema.compiles.accepted }) given.typed.type given.bytes v d r given.makes it.holds.cause)

created_so : (c : Call) (v : Typed) (d : Data) (given : IsGivenValue c v d) (t : Taking) → AreTaken c.job c.before.supply t → CreatesValue c t → CreatesPlainly c given.typed.rows given.typed.type v d S.Done
created_so c v d given t taken made =
    let P : List Row → TypeNo → List ℕ → Type 0 = IsOfTable (λ rows n b. Created hash rows n b c.before.moment c.after.moment made.root.0) in
    let it = said P (work_of c.job t) given.typed.rows made.value.rows given.typed.type made.value.type given.bytes made.value.bytes (work_makes c v d given t taken) made.value.work (record { table = made.table; holds = made.created }) in
    let tried = it.holds.tried in
    let same = one_made hash given.typed.rows (record { table = it.table; accepted = given.typed.schema.compiles.accepted }) given.typed.type given.bytes tried.value v tried.tree d tried.makes given.makes in
    record {
      status_is = refl;
      root = made.root;
      root_is = it.holds.root ∙ ap (λ (x : Data). root_id bare x) same.1;
      stands = subst (λ (x : Typed). IfTold c.after.moment.blocks (λ held. Stands bare (block_at held) hash given.typed.rows given.typed.type made.root.0 x)) same.0 it.holds.stands;
      written = made.written;
    }

pub created_by : (c : Call) (v : Typed) (d : Data) (given : IsGivenValue c v d) → LetsCreate c given.typed.rows given.typed.type v d → (t : Taking) (status : Status) → AreTaken c.job c.before.supply t → Says c t status → (status ≡ S.Memory) ⊎ CreatesPlainly c given.typed.rows given.typed.type v d status
created_by c v d given calm t S.Done taken (inl all) = absurd (no_answers (work_of c.job t) given.typed.rows given.typed.type given.bytes all.script.rows all.script.type all.script.start all.script.bytes (work_makes c v d given t taken) all.script.work)
created_by c v d given calm t S.Done taken (inr (inl listed)) = absurd (no_list (work_of c.job t) listed.names given.typed.rows given.typed.type given.bytes (work_makes c v d given t taken) listed.work)
created_by c v d given calm t S.Done taken (inr (inr (inl made))) = inr (created_so c v d given t taken made)
created_by c v d given calm t S.Done taken (inr (inr (inr (inr (inl told))))) = absurd (other_sort _ _ _ (work_makes c v d given t taken) told.types.work refl refl)
created_by c v d given calm t S.Done taken (inr (inr (inr (inr (inr (inl told)))))) = absurd (other_sort _ _ _ (work_makes c v d given t taken) told.proof.work refl refl)
created_by c v d given calm t S.Done taken (inr (inr (inr (inr (inr (inr (inl all))))))) = absurd (other_sort _ _ _ (work_makes c v d given t taken) all.script.work refl refl)
created_by c v d given calm t S.Done taken (inr (inr (inr (inr (inr (inr (inr (inl sought)))))))) = absurd (other_sort _ _ _ (work_makes c v d given t taken) sought.made.sought.work refl refl)
created_by c v d given calm t S.Done taken (inr (inr (inr (inr (inr (inr (inr (inr named)))))))) = absurd (other_sort _ _ _ (work_makes c v d given t taken) named.has.moved.work refl refl)
created_by c v d given calm t S.Done taken (inr (inr (inr (inl shows)))) =
    absurd (let has = shows.1.has in no_root (work_of c.job t) has.opened.rows has.opened.type has.opened.root given.typed.rows given.typed.type given.bytes (work_makes c v d given t taken) has.opened.work)
created_by c v d given calm t S.Refused taken (inl all) = absurd (no_answers (work_of c.job t) given.typed.rows given.typed.type given.bytes all.script.rows all.script.type all.script.start all.script.bytes (work_makes c v d given t taken) all.script.work)
created_by c v d given calm t S.Refused taken (inr (inr (inl told))) = absurd (other_sort _ _ _ (work_makes c v d given t taken) told.1.types.work refl refl)
created_by c v d given calm t S.Refused taken (inr (inr (inr (inl told)))) = absurd (other_sort _ _ _ (work_makes c v d given t taken) told.proof.work refl refl)
created_by c v d given calm t S.Refused taken (inr (inr (inr (inr all)))) = absurd (other_sort _ _ _ (work_makes c v d given t taken) all.script.work refl refl)
created_by c v d given calm t S.Refused taken (inr (inl shows)) =
    absurd (let has = shows.has in no_root (work_of c.job t) has.opened.rows has.opened.type has.opened.root given.typed.rows given.typed.type given.bytes (work_makes c v d given t taken) has.opened.work)
created_by c v d given calm t S.Memory taken says = inl refl
created_by c v d given calm t S.SinkFault taken says = absurd (calm.faultless.calm.sink says.0)
created_by c v d given calm t S.Words taken says = absurd (let e = no_fault c v d given calm t F.Words taken says.due in cc)
created_by c v d given calm t S.Schema taken tells = absurd (let e = no_fault c v d given calm t (F.Schema tells.0) taken tells.1.due in cc)
created_by c v d given calm t S.Input taken says = absurd (let e = no_fault c v d given calm t (F.Input says.0 says.1) taken says.2.due in cc)
created_by c v d given calm t S.StoreFault taken (inl tells) = absurd (let e = no_fault c v d given calm t F.Store taken tells.due in cc)
created_by c v d given calm t S.StoreFault taken (inr tells) = absurd (let e = no_fault c v d given calm t (F.Clash tells.0) taken tells.1.due in cc)
created_by c v d given calm t S.Root taken says = absurd (let e = no_fault c v d given calm t (F.Root says.0 says.1) taken says.2.due in cc)
created_by c v d given calm t S.Value taken (inl says) = absurd (let e = no_fault c v d given calm t (F.Value says.0) taken says.1.due in cc)
created_by c v d given calm t S.Value taken (inr tells) = absurd (let e = no_fault c v d given calm t F.Proof taken tells.due in cc)
