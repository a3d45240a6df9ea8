-- Where nothing stands in the way, a script is answered as on the plain value.
use Rattle.std.proofs.Common.{◌≡◌, ◌≢◌, ◌⊎◌, ℕ, ◌≤◌, List, Bool, true, false, cond, Option, Some, None, refl, sym, ap, ◌∙◌, subst, inl, inr, arith}
use Rattle.std.proofs.lemmas.Option.{same_Some, none-some}
use Rattle.ild_compile.specs.Compile.{Verdict, table}
use Rattle.ild_compile.proofs.OneVerdict.{one_verdict_lem}
use Rattle.ild_cbor.specs.declared.why.BlockWhy.{BlockWhy}
use Rattle.ild_data.proofs.Options.{some_there}
use Rattle.ild_data.specs.declared.id.BlockId.{BlockId}
use Rattle.ild_edges.specs.Count.{Rose, bumped}
use Rattle.ild_edges.specs.Inputs.{MayBe}
use Rattle.ild_edges.specs.Store.{Moment, block_at}
use Rattle.ild_edges.specs.declared.inputs.Taken.{Taken}
use Rattle.ild_path_edits.specs.Judged.{Tests, AreTests}
use Rattle.ild_run_open.specs.Starts.{Asks, HasFirst, Stops}
use Rattle.ild_run_open.specs.declared.start.Start.{Start}
use Rattle.ild_run_open.specs.declared.start.Start.TheVariants as B
use Rattle.ild_run_open.specs.declared.start.StartFault.TheVariants as P
use Rattle.ild_run_script.proofs.Plainness.{plain_lines}
use Rattle.ild_run_script.proofs.Scripting.{asks_later}
use Rattle.ild_run_script.specs.Plainly.{MayBatch, MayCome, StartsAt}
use Rattle.ild_run_script.specs.Scripts.{lines_on, AnswersAll as ScriptAll}
use Rattle.ild_schema.specs.Names.{number_named}
use Rattle.ild_schema.specs.Table.{IsTable}
use Rattle.ild_schema.specs.Value.{Value as Typed}
use Rattle.ild_schema.specs.declared.number.TypeNo.{TypeNo}
use Rattle.ild_schema.specs.declared.row.Row.{Row}
use Rattle.ild_script.specs.Line.{lines_of}
use Rattle.ild_script_session.proofs.Steps.{told_later}
use Rattle.ild_script_session.specs.Plain.{AreApart, AreAllApart}
use Rattle.ild_script_session.specs.Run.{Run}
use Rattle.ild_script_session.specs.Session.{resting}
use Rattle.ild_script_session.specs.Step.{Carries}
use Rattle.ild_typed.proofs.TreeKept.{one_stands}
use Rattle.ild_typed.specs.Schema.{IsSchema}
use Rattle.ild_typed.specs.Stands.{bare, IsFrame, Stands}
use Rattle.ild_run.specs.Work.{Work, Taking, ends, lists, answers, makes, opens, run_work, compiled_work, schema_work, job_work, work_of, IsVerdict, IsTaking, AreTaken}
use Rattle.ild_run.specs.Words.{Job, runs}
use Rattle.ild_run.specs.Ended.{Call, IsDue, AnswersAll, Says}
use Rattle.ild_run.specs.Complete.{IsGiven, IsUndisturbed, AnswersPlainly}
use Rattle.ild_run.proofs.Matchings.{other_sort}
use Rattle.ild_run.proofs.Namings.{refuses_move}
use Rattle.ild_run.specs.Shown.{hash}
use Rattle.ild_run.specs.declared.fault.Fault.{Fault}
use Rattle.ild_run.specs.declared.fault.Fault.TheVariants as F
use Rattle.ild_run.specs.declared.fault.Role.{Role}
use Rattle.ild_run.specs.declared.fault.Trouble.TheVariants as T
use Rattle.ild_run.specs.declared.status.Status.{Status}
use Rattle.ild_run.specs.declared.status.Status.TheVariants as S

-- ---- the work

abbrev Running : Work → List Row → TypeNo → Start → List ℕ → Type 0
Running w rows n start b = (w ≡ answers rows n start b) ⊎ (w ≡ ends F.Memory)

named_runs : (rows : List Row) (n : TypeNo) (start : Start) (b : List ℕ) (found : Option ℕ) (taken : Taken) → found ≡ Some n.0 → taken ≡ Taken.Bytes b → Running (run_work rows found start taken) rows n start b
named_runs rows n start b found taken named held =
    let same : run_work rows found start taken ≡ answers rows n start b = ap (λ x. run_work rows x start taken) named ∙ ap (λ x. run_work rows (Some n.0) start x) held in
    inl same

-- ---- what it is not

no_end : (w : Work) (f : Fault) (rows : List Row) (n : TypeNo) (start : Start) (b : List ℕ) → Running w rows n start b → (f ≡ F.Memory → ⊥) → w ≡ ends f → ⊥
no_end w f rows n start b (inl is) other ended = let e : answers rows n start b ≡ ends f = sym is ∙ ended in cc
no_end w f rows n start b (inr is) other ended = other (let e : ends F.Memory ≡ ends f = sym is ∙ ended in cc)

no_list : (w : Work) (names : List (List ℕ)) (rows : List Row) (n : TypeNo) (start : Start) (b : List ℕ) → Running w rows n start b → w ≡ lists names → ⊥
no_list w names rows n start b (inl is) listed = let e : answers rows n start b ≡ lists names = sym is ∙ listed in cc
no_list w names rows n start b (inr is) listed = let e : ends F.Memory ≡ lists names = sym is ∙ listed in cc

no_value : (w : Work) (made : List Row) (m : TypeNo) (bytes : List ℕ) (rows : List Row) (n : TypeNo) (start : Start) (b : List ℕ) → Running w rows n start b → w ≡ makes made m bytes → ⊥
no_value w made m bytes rows n start b (inl is) work = let e : answers rows n start b ≡ makes made m bytes = sym is ∙ work in cc
no_value w made m bytes rows n start b (inr is) work = let e : ends F.Memory ≡ makes made m bytes = sym is ∙ work in cc

no_root : (w : Work) (opened : List Row) (m : TypeNo) (id : List ℕ) (rows : List Row) (n : TypeNo) (start : Start) (b : List ℕ) → Running w rows n start b → w ≡ opens opened m id → ⊥
no_root w opened m id rows n start b (inl is) work = let e : answers rows n start b ≡ opens opened m id = sym is ∙ work in cc
no_root w opened m id rows n start b (inr is) work = let e : ends F.Memory ≡ opens opened m id = sym is ∙ work in cc

-- what is said of the script that is run
abbrev OfRun : (List Row → TypeNo → Start → List ℕ → Type 0) → Work → Type 0
OfRun Q (answers rows n start b) = Q rows n start b
OfRun Q w = ⊥

said : (Q : List Row → TypeNo → Start → List ℕ → Type 0) (w : Work) (rows run : List Row) (n m : TypeNo) (start s : Start) (b d : List ℕ) → Running w rows n start b → w ≡ answers run m s d → Q run m s d → Q rows n start b
said Q w rows run n m start s b d (inl is) work q = subst (OfRun Q) (sym work ∙ is) q
said Q w rows run n m start s b d (inr is) work q = absurd (subst (OfRun Q) (sym work ∙ is) q)

-- ---- where a script starts

pub start_apart : (rows : List Row) (n : TypeNo) (tests : Tests) (start : Start) (v : Typed) (script : List ℕ) (id : BlockId) (m k : Moment) → Stops hash rows n start m (P.Clash id) k → AreApart k (MayCome rows n tests start v script) → ⊥
start_apart rows n tests (B.Root root) v script id m k stops apart = stops
start_apart rows n tests B.Empty v script id m k stops apart = let hit = stops.hit in apart hit.kept hit.new (inl hit.among) hit.held hit.collide

pub start_empty : (rows : List Row) (n : TypeNo) (start : Start) (v : Typed) (held : List (List ℕ)) (m k : Moment) → Stops hash rows n start m P.Mismatch k → StartsAt rows n start held v → ⊥
start_empty rows n (B.Root root) v held m k stops starts = stops
start_empty rows n B.Empty v held m k stops starts = none-some v (sym stops.0 ∙ starts)

pub start_there : (rows : List Row) (n : TypeNo) (start : Start) (v : Typed) (held : List (List ℕ)) (m k : Moment) (id : BlockId) (why : BlockWhy) → m.blocks ≡ Some held → Stops hash rows n start m (P.Block id why) k → StartsAt rows n start held v → ⊥
start_there rows n (B.Root root) v held m k id why told stops starts = stops.none held v told starts
start_there rows n B.Empty v held m k id why told stops starts = stops

bare_is_frame : IsFrame bare
bare_is_frame = record { less = omega arith; apart = λ c d same. same; fits = λ d fits. fits; blocks = tt }

-- the value from which it started is the one that stands there, or the empty one
one_first : (rows : List Row) → IsSchema rows → (n : TypeNo) (start : Start) (v : Typed) (block : List ℕ) (held then : List (List ℕ)) (m k : Moment) → m.blocks ≡ Some held → k.blocks ≡ Some then → Asks hash rows n start m k
    → (first : HasFirst hash rows n start block then) → StartsAt rows n start held v → first.value ≡ v
one_first rows schema n (B.Root root) v block held then m k told later asks first starts =
    let same : then ≡ held = same_Some then held (sym later ∙ (asks.only.blocks ∙ told)) in
    let there : Stands bare (block_at held) hash rows n root.0 first.value =
    subst (λ (bs : List (List ℕ)). Stands bare (block_at bs) hash rows n root.0 first.value) same (subst (λ (id : List ℕ). Stands bare (block_at then) hash rows n id first.value) first.from first.is.stands) in
    one_stands bare bare_is_frame (block_at held) hash rows schema n root.0 first.value v there starts
one_first rows schema n B.Empty v block held then m k told later asks first starts = same_Some first.value v (sym first.from ∙ starts)

is_told : (o : Option (List (List ℕ))) (held : List (List ℕ)) → o ≡ Some held → o ≢ None
is_told o held is none = none-some held (sym none ∙ is)

-- ---- the lines

-- of a script that was answered from a moment on
module _ (c : Call) (rows : List Row) (n : TypeNo) (tests : Tests) (start : Start) (v : Typed) (script : List ℕ) (m : Moment) (held : List (List ℕ)) (store : m.blocks ≡ Some held)
    (tested : AreTests rows tests) (starts : StartsAt rows n start held v) (calm : Rose m.faults c.after.moment.faults → ⊥)
    (apart : AreAllApart c.after.moment (MayBatch rows n tests v script) (MayCome rows n tests start v script)) where
  pub plain_from : (status : Status) (refused : Bool) → status ≡ cond refused S.Refused S.Done → IsSchema rows → ScriptAll rows n start script m c.before.output refused c.after.moment c.after.output
      → AnswersPlainly c rows n tests v script status
  plain_from status refused is schema all =
      let opened = all.answered.opened in
      let later = asks_later rows n start m opened all.answered.asks in
      let told = told_later m opened later (is_told m.blocks held store) in
      let some = some_there opened.blocks told in
      let from = all.answered.from some.0 tests some.1 tested in
      let M = lines_on rows n tests in
      let same = one_first rows schema n start v all.answered.block held some.0 m opened store some.1 all.answered.asks from.first starts in
      let run : Run M opened (resting v) (lines_of script) all.replies c.after.moment from.last = subst (λ (x : Typed). Run M opened (resting x) (lines_of script) all.replies c.after.moment from.last) same from.run in
      let carried = subst (λ (x : Typed). Carries M opened (resting x)) same from.carried in
      let calm_run : Rose opened.faults c.after.moment.faults → ⊥ = λ rose. calm (let r : bumped opened.faults ≤ c.after.moment.faults = rose in let le = later.faults in omega arith) in
      record {
        replies = all.replies;
        last = from.last.state;
        run = plain_lines rows n tests opened v (lines_of script) all.replies c.after.moment from.last run carried told calm_run
            (record { held = λ kept new may. apart.held kept new (inr may); inside = λ begins a b may_a may_b. apart.inside begins a b (inr may_a) (inr may_b) });
        written = all.written;
        status_is = is ∙ ap (λ b. cond b S.Refused S.Done) all.refused_is;
      }

-- of an accepted table
record IsOfTable (Q : List Row → TypeNo → Start → List ℕ → Type 0) (rows : List Row) (n : TypeNo) (start : Start) (b : List ℕ) : Type 0 where
  table : IsTable rows
  holds : Q rows n start b

module _ (c : Call) (tests : Tests) (v : Typed) (script : List ℕ) (given : IsGiven c tests v script) where
  abbrev job : Job
  job = runs given.schema_name given.type_name given.start given.script_name

  abbrev IsRunning : Work → Type 0
  IsRunning w = Running w given.typed.rows given.typed.type given.start script

  compiled_runs : (t : Taking) (verdict : Option Verdict) → t.input Role.Script ≡ Taken.Bytes script → IsVerdict (Taken.Bytes given.typed.schema.bytes) verdict → IsRunning (compiled_work job verdict t)
  compiled_runs t None held says = inr refl
  compiled_runs t (Some w) held says =
      let one : table given.typed.rows ≡ w = one_verdict_lem given.typed.schema.bytes (table given.typed.rows) w given.typed.schema.compiles says in
      subst (λ (x : Verdict). IsRunning (compiled_work job (Some x) t)) one
      (named_runs given.typed.rows given.typed.type given.start script (number_named given.type_name given.typed.rows) (t.input Role.Script) given.typed.named held)

  job_runs : (t : Taking) → IsTaking job c.before.supply t → IsRunning (job_work job t)
  job_runs t taken =
      let schema_is : t.input Role.Schema ≡ Taken.Bytes given.typed.schema.bytes = subst (λ (f : Option (List (List ℕ × List ℕ))). MayBe f given.schema_name (t.input Role.Schema)) given.told (taken.input Role.Schema) ∙ given.typed.schema.held in
      let script_is : t.input Role.Script ≡ Taken.Bytes script = subst (λ (f : Option (List (List ℕ × List ℕ))). MayBe f given.script_name (t.input Role.Script)) given.told (taken.input Role.Script) ∙ given.script_held in
      let same : job_work job t ≡ compiled_work job t.verdict t = ap (λ x. schema_work job x t.verdict t) schema_is in
      subst IsRunning (sym same) (compiled_runs t t.verdict script_is (subst (λ (x : Taken). IsVerdict x t.verdict) schema_is taken.verdict))

  work_runs : (t : Taking) → AreTaken c.job c.before.supply t → IsRunning (work_of c.job t)
  work_runs t taken = subst IsRunning (sym (ap (λ j. work_of j t) given.job)) (job_runs t (subst (λ (j : Option Job). AreTaken j c.before.supply t) given.job taken))

  module _ (calm : IsUndisturbed c given.typed.rows given.typed.type tests given.start v script) (t : Taking) (taken : AreTaken c.job c.before.supply t) where
    here : IsRunning (work_of c.job t)
    here = work_runs t taken

    ends_not : (f : Fault) → (f ≡ F.Memory → ⊥) → work_of c.job t ≡ ends f → ⊥
    ends_not f other work = no_end (work_of c.job t) f given.typed.rows given.typed.type given.start script here other work

    makes_not : (made : List Row) (m : TypeNo) (bytes : List ℕ) → work_of c.job t ≡ makes made m bytes → ⊥
    makes_not made m bytes work = no_value (work_of c.job t) made m bytes given.typed.rows given.typed.type given.start script here work

    opens_not : (opened : List Row) (m : TypeNo) (id : List ℕ) → work_of c.job t ≡ opens opened m id → ⊥
    opens_not opened m id work = no_root (work_of c.job t) opened m id given.typed.rows given.typed.type given.start script here work

    -- no fault but want of memory is due
    no_fault : (f : Fault) → IsDue c t f → f ≡ F.Memory
    no_fault F.Memory due = refl
    no_fault F.Words due = absurd (ends_not F.Words (λ e. cc) due)
    no_fault (F.Schema f) due = absurd (ends_not (F.Schema f) (λ e. cc) due)
    no_fault (F.Input role T.Failed) due = absurd (calm.faultless.calm.inputs due.0)
    no_fault (F.Input role T.Absent) due = absurd (ends_not (F.Input role T.Absent) (λ e. cc) due.0)
    no_fault (F.Input role T.Long) due = absurd (ends_not (F.Input role T.Long) (λ e. cc) due.0)
    no_fault F.Store due = absurd (calm.faultless.store due.0)
    no_fault (F.Clash id) (inl due) =
        let it = said (λ rows n start b. Stops hash rows n start c.before.moment (P.Clash id) c.after.moment) (work_of c.job t) given.typed.rows due.script.rows given.typed.type due.script.type given.start due.script.start script due.script.bytes here due.script.work due.stops in
        absurd (start_apart given.typed.rows given.typed.type tests given.start v script id c.before.moment c.after.moment it calm.apart.held)
    no_fault (F.Clash id) (inr (inr moved)) = absurd (other_sort _ _ _ here moved.moved.work refl refl)
    no_fault (F.Clash id) (inr (inl clash)) = absurd (makes_not clash.value.rows clash.value.type clash.value.bytes clash.value.work)
    no_fault (F.Value r) (inl due) =
        let x = due.1 in
        let it = said (λ rows n start b. Stops hash rows n start c.before.moment P.Mismatch c.after.moment) (work_of c.job t) given.typed.rows x.script.rows given.typed.type x.script.type given.start x.script.start script x.script.bytes here x.script.work x.stops in
        absurd (start_empty given.typed.rows given.typed.type given.start v given.held c.before.moment c.after.moment it given.starts)
    no_fault (F.Value r) (inr (inr moved)) = absurd (other_sort _ _ _ here (refuses_move c t r moved).work refl refl)
    no_fault (F.Value r) (inr (inl due)) = absurd (makes_not due.value.rows due.value.type due.value.bytes due.value.work)
    no_fault F.Proof due = absurd (other_sort _ _ _ here due.proof.work refl refl)
    no_fault (F.Root id why) (inl due) =
        let it = said (λ rows n start b. Stops hash rows n start c.before.moment (P.Block id why) c.after.moment) (work_of c.job t) given.typed.rows due.script.rows given.typed.type due.script.type given.start due.script.start script due.script.bytes here due.script.work due.stops in
        absurd (start_there given.typed.rows given.typed.type given.start v given.held c.before.moment c.after.moment id why given.store it given.starts)
    no_fault (F.Root id why) (inr (inr (inr moved))) = absurd (other_sort _ _ _ here moved.moved.work refl refl)
    no_fault (F.Root id why) (inr (inr (inl due))) = absurd (other_sort _ _ _ here due.sought.work refl refl)
    no_fault (F.Root id why) (inr (inl due)) = absurd (opens_not due.opened.rows due.opened.type due.opened.root due.opened.work)

    lines_plainly : (status : Status) (refused : Bool) → status ≡ cond refused S.Refused S.Done → IsTable given.typed.rows → ScriptAll given.typed.rows given.typed.type given.start script c.before.moment c.before.output refused c.after.moment c.after.output
        → AnswersPlainly c given.typed.rows given.typed.type tests v script status
    lines_plainly status refused is tabled all =
        plain_from c given.typed.rows given.typed.type tests given.start v script c.before.moment given.held given.store given.tested given.starts calm.faultless.store calm.apart status refused is
        (record { table = tabled; accepted = given.typed.schema.compiles.accepted }) all

    plainly : (status : Status) (refused : Bool) → status ≡ cond refused S.Refused S.Done → AnswersAll c t refused → AnswersPlainly c given.typed.rows given.typed.type tests v script status
    plainly status refused is all =
        let Q : List Row → TypeNo → Start → List ℕ → Type 0 = IsOfTable (λ rows n start b. ScriptAll rows n start b c.before.moment c.before.output refused c.after.moment c.after.output) in
        let it = said Q (work_of c.job t) given.typed.rows all.script.rows given.typed.type all.script.type given.start all.script.start script all.script.bytes here all.script.work (record { table = all.table; holds = all.all }) in
        lines_plainly status refused is it.table it.holds

    pub run_by : (status : Status) → Says c t status → (status ≡ S.Memory) ⊎ AnswersPlainly c given.typed.rows given.typed.type tests v script status
    run_by S.Done (inl all) = inr (plainly S.Done false refl all)
    run_by S.Done (inr (inl listed)) = absurd (no_list (work_of c.job t) listed.names given.typed.rows given.typed.type given.start script here listed.work)
    run_by S.Done (inr (inr (inl created))) = absurd (makes_not created.value.rows created.value.type created.value.bytes created.value.work)
    run_by S.Done (inr (inr (inr (inr (inl told))))) = absurd (other_sort _ _ _ here told.types.work refl refl)
    run_by S.Done (inr (inr (inr (inr (inr (inl told)))))) = absurd (other_sort _ _ _ here told.proof.work refl refl)
    run_by S.Done (inr (inr (inr (inr (inr (inr (inl all))))))) = absurd (other_sort _ _ _ here all.script.work refl refl)
    run_by S.Done (inr (inr (inr (inr (inr (inr (inr (inl sought)))))))) = absurd (other_sort _ _ _ here sought.made.sought.work refl refl)
    run_by S.Done (inr (inr (inr (inr (inr (inr (inr (inr named)))))))) = absurd (other_sort _ _ _ here named.has.moved.work refl refl)
    run_by S.Done (inr (inr (inr (inl shows)))) = absurd (let has = shows.1.has in opens_not has.opened.rows has.opened.type has.opened.root has.opened.work)
    run_by S.Refused (inl all) = inr (plainly S.Refused true refl all)
    run_by S.Refused (inr (inr (inl told))) = absurd (other_sort _ _ _ here told.1.types.work refl refl)
    run_by S.Refused (inr (inr (inr (inl told)))) = absurd (other_sort _ _ _ here told.proof.work refl refl)
    run_by S.Refused (inr (inr (inr (inr all)))) = absurd (other_sort _ _ _ here all.script.work refl refl)
    run_by S.Refused (inr (inl shows)) = absurd (let has = shows.has in opens_not has.opened.rows has.opened.type has.opened.root has.opened.work)
    run_by S.Memory says = inl refl
    run_by S.SinkFault says = absurd (calm.faultless.calm.sink says.0)
    run_by S.Words says = absurd (let e = no_fault F.Words says.due in cc)
    run_by S.Schema says = absurd (let e = no_fault (F.Schema says.0) says.1.due in cc)
    run_by S.Input says = absurd (let e = no_fault (F.Input says.0 says.1) says.2.due in cc)
    run_by S.StoreFault (inl tells) = absurd (let e = no_fault F.Store tells.due in cc)
    run_by S.StoreFault (inr tells) = absurd (let e = no_fault (F.Clash tells.0) tells.1.due in cc)
    run_by S.Root says = absurd (let e = no_fault (F.Root says.0 says.1) says.2.due in cc)
    run_by S.Value (inl says) = absurd (let e = no_fault (F.Value says.0) says.1.due in cc)
    run_by S.Value (inr tells) = absurd (let e = no_fault F.Proof tells.due in cc)
