-- How a call ends, from how its steps ended.
use Rattle.std.proofs.Common.{◌≡◌, ◌⊎◌, ℕ, List, Bool, true, false, Option, Some, None, Result, Ok, Err, refl, sym, ap, ◌∙◌, subst, inl, inr}
use Rattle.ild_edges.specs.Count.{Rose}
use Rattle.ild_edges.specs.Sink.{Output, Appends, AppendsFront}
use Rattle.ild_edges.specs.Store.{Moment}
use Rattle.ild_edges.specs.declared.inputs.Taken.TheVariants as Taken
use Rattle.ild_run_create.specs.Creates.{CreateAnswer}
use Rattle.ild_run_create.specs.declared.fault.CreateFault.{CreateFault}
use Rattle.ild_run_create.specs.declared.fault.CreateFault.TheVariants as V
use Rattle.ild_data.specs.declared.id.BlockId.{BlockId}
use Rattle.ild_schema.specs.Table.{IsTable}
use Rattle.ild_schema.specs.declared.number.TypeNo.{TypeNo}
use Rattle.ild_schema.specs.declared.row.Row.{Row}
use Rattle.ild_run_open.specs.Starts.{Asks, Stops}
use Rattle.ild_run_open.specs.declared.start.Start.{Start}
use Rattle.ild_run_open.specs.declared.start.Start.TheVariants as B
use Rattle.ild_run_open.specs.declared.start.StartFault.{StartFault}
use Rattle.ild_run_open.specs.declared.start.StartFault.TheVariants as P
use Rattle.ild_run_script.specs.Scripts.{ScriptAnswer, AnswersAll as ScriptAll, AnswersSome as ScriptSome}
use Rattle.ild_run_script.specs.declared.fault.ScriptFault.{ScriptFault}
use Rattle.ild_run_script.specs.declared.fault.ScriptFault.TheVariants as X
use Rattle.ild_run.specs.inside.Answered.{AnsweredTold, AnsweredAs}
use Rattle.ild_run.proofs.Openings.{taking_of}
use Rattle.ild_run.specs.Opening.{InputsFault}
use Rattle.ild_run.specs.Fault.{fault_text, status_of, start_fault}
use Rattle.ild_run.specs.Work.{Work, Taking, in_roles, lists, answers, makes, opens, work_of, job_work, IsTaking, AreTaken, TakesForRole, Reaches}
use Rattle.ild_run.specs.Words.{Job}
use Rattle.ild_run.specs.Cut.{CutAs, ToldAs}
use Rattle.ild_run.specs.Listed.{Lists, ListsFront, ListedAs}
use Rattle.ild_run.specs.inside.Made.{made_fault, MadeTold, MadeAs}
use Rattle.ild_run.specs.Shown.{hash, Replied, ShownTold, ShownAs}
use Rattle.ild_run_show.specs.Shows.{Shows}
use Rattle.ild_run_show.specs.declared.fault.ShowFault.{ShowFault}
use Rattle.ild_run_show.specs.declared.fault.ShowFault.TheVariants as W
use Rattle.ild_run.specs.Ended.{Call, IsDue, AsksScript, StopsScript, Leaves, AnswersAll, AnswersSome, ListsSome, CreatesSome, OpensRoot, ReadsRoot, HasRoot, reply_on, ShowsSome, Tells, TellsFront, Says, Ended}
use Rattle.ild_run.specs.declared.fault.Fault.{Fault}
use Rattle.ild_run.specs.declared.fault.Fault.TheVariants as F
use Rattle.ild_run.specs.declared.fault.Role.{Role}
use Rattle.ild_run.specs.declared.fault.Trouble.TheVariants as T
use Rattle.ild_script_session.specs.declared.cut.Cut.TheVariants as C
use Rattle.ild_run.specs.declared.status.Status.{Status}
use Rattle.ild_run.specs.declared.status.Status.TheVariants as S

-- a fault that was told whole
says_told : (c : Call) (t : Taking) (f : Fault) → Tells c t f → Says c t (status_of f)
says_told c t F.Words tells = tells
says_told c t (F.Schema f) tells = (f, tells)
says_told c t (F.Input role trouble) tells = (role, trouble, tells)
says_told c t F.Store tells = inl tells
says_told c t (F.Clash id) tells = inr (id, tells)
says_told c t F.Memory tells = inl tells
says_told c t (F.Value r) tells = inl (r, tells)
says_told c t F.Proof tells = inr tells
says_told c t (F.Root id why) tells = (id, why, tells)

-- a fault whose line was cut off
says_front : (c : Call) (t : Taking) (status : Status) → TellsFront c t → CutAs c.before.output status c.after.output → Says c t status
says_front c t S.SinkFault front rose = (rose, inl front)
says_front c t S.Memory front rose = inr (inl front)
says_front c t S.Done front rose = absurd rose
says_front c t S.Refused front rose = absurd rose
says_front c t S.Words front rose = absurd rose
says_front c t S.Schema front rose = absurd rose
says_front c t S.Root front rose = absurd rose
says_front c t S.Input front rose = absurd rose
says_front c t S.StoreFault front rose = absurd rose
says_front c t S.Value front rose = absurd rose

pub says_by : (c : Call) (t : Taking) (f : Fault) (status : Status) → IsDue c t f → Leaves c t f
    → ((status ≡ status_of f) × Appends c.before.output.written c.after.output.written (fault_text f)) ⊎ (CutAs c.before.output status c.after.output × AppendsFront c.before.output.written c.after.output.written (fault_text f))
    → Says c t status
says_by c t f status due leaves (inl told) = subst (λ (s : Status). Says c t s) (sym told.0) (says_told c t f (record { due = due; leaves = leaves; written = told.1 }))
says_by c t f status due leaves (inr cut) = says_front c t status (record { f = f; due = due; leaves = leaves; written = cut.1 }) cut.0

pub ended_told : (c : Call) (t : Taking) (f : Fault) (status : Status) → AreTaken c.job c.before.supply t → IsDue c t f → Leaves c t f → ToldAs f c.before.output status c.after.output → Ended c status
ended_told c t f status taken due leaves told = record { taking = t; taken = taken; says = says_by c t f status due leaves told.told }

-- a call whose words have no form
no_taking : Taking
no_taking = record { input = in_roles Taken.Absent Taken.Absent; verdict = None; next = None }

pub ended_words : (c : Call) (status : Status) → c.job ≡ None → c.after.moment ≡ c.before.moment → ToldAs F.Words c.before.output status c.after.output → Ended c status
ended_words c status none same told =
    ended_told c no_taking F.Words status (subst (λ (j : Option Job). AreTaken j c.before.supply no_taking) (sym none) tt) (ap (λ j. work_of j no_taking) none) same told

-- a call for whose words memory is wanting
pub ended_unread : (c : Call) (status : Status) → c.after.moment ≡ c.before.moment → ToldAs F.Memory c.before.output status c.after.output → Ended c status
ended_unread c status same told = let some = taking_of c.job c.before.supply in ended_told c some.0 F.Memory status some.1 tt (inl same) told

pub are_taken : (c : Call) (job : Job) (t : Taking) → c.job ≡ Some job → IsTaking job c.before.supply t → AreTaken c.job c.before.supply t
are_taken c job t named taken = subst (λ (j : Option Job). AreTaken j c.before.supply t) (sym named) taken

pub is_work : (c : Call) (job : Job) (t : Taking) (w : Work) → c.job ≡ Some job → job_work job t ≡ w → work_of c.job t ≡ w
is_work c job t w named is = ap (λ j. work_of j t) named ∙ is

reaches : (c : Call) (job : Job) (role : Role) (t : Taking) → c.job ≡ Some job → TakesForRole role job t → Reaches role c.job t
reaches c job role t named there = subst (λ (j : Option Job). Reaches role j t) (sym named) there

due_inputs : (c : Call) (job : Job) (t : Taking) (f : Fault) → c.job ≡ Some job → InputsFault c.before.supply job t f c.after.supply → IsDue c t f
due_inputs c job t (F.Input role T.Failed) named fault = (fault.0, reaches c job role t named fault.1)
due_inputs c job t (F.Input role T.Absent) named fault = (is_work c job t _ named fault.0, fault.1)
due_inputs c job t (F.Input role T.Long) named fault = (is_work c job t _ named fault.0, fault.1)
due_inputs c job t (F.Schema f) named fault = is_work c job t _ named fault
due_inputs c job t F.Memory named fault = tt
due_inputs c job t F.Words named fault = is_work c job t _ named fault
due_inputs c job t (F.Value r) named fault = absurd fault
due_inputs c job t F.Proof named fault = absurd fault
due_inputs c job t (F.Root id why) named fault = absurd fault
due_inputs c job t F.Store named fault = absurd fault
due_inputs c job t (F.Clash id) named fault = absurd fault

leaves_inputs : (c : Call) (job : Job) (t : Taking) (f : Fault) → InputsFault c.before.supply job t f c.after.supply → c.after.moment ≡ c.before.moment → Leaves c t f
leaves_inputs c job t (F.Input role trouble) fault same = same
leaves_inputs c job t (F.Schema f) fault same = same
leaves_inputs c job t F.Memory fault same = inl same
leaves_inputs c job t F.Words fault same = same
leaves_inputs c job t (F.Value r) fault same = absurd fault
leaves_inputs c job t F.Proof fault same = absurd fault
leaves_inputs c job t (F.Root id why) fault same = absurd fault
leaves_inputs c job t F.Store fault same = absurd fault
leaves_inputs c job t (F.Clash id) fault same = absurd fault

-- a call whose inputs were not taken
pub ended_inputs : (c : Call) (job : Job) (t : Taking) (f : Fault) (status : Status) → c.job ≡ Some job → IsTaking job c.before.supply t
    → InputsFault c.before.supply job t f c.after.supply → c.after.moment ≡ c.before.moment → ToldAs f c.before.output status c.after.output → Ended c status
ended_inputs c job t f status named a fault same told = ended_told c t f status (are_taken c job t named a) (due_inputs c job t f named fault) (leaves_inputs c job t f fault same) told

-- a front of the line of names
says_some : (c : Call) (t : Taking) (status : Status) → ListsSome c t → CutAs c.before.output status c.after.output → Says c t status
says_some c t S.SinkFault some rose = (rose, inr (inr (inl some)))
says_some c t S.Memory some rose = inr (inr (inr (inl some)))
says_some c t S.Done some rose = absurd rose
says_some c t S.Refused some rose = absurd rose
says_some c t S.Words some rose = absurd rose
says_some c t S.Schema some rose = absurd rose
says_some c t S.Root some rose = absurd rose
says_some c t S.Input some rose = absurd rose
says_some c t S.StoreFault some rose = absurd rose
says_some c t S.Value some rose = absurd rose

says_listed : (c : Call) (t : Taking) (names : List (List ℕ)) (status : Status) → work_of c.job t ≡ lists names → c.after.moment ≡ c.before.moment
    → ((status ≡ S.Done) × Lists names c.before.output c.after.output) ⊎ ((CutAs c.before.output status c.after.output × ListsFront names c.before.output c.after.output) ⊎ ToldAs F.Memory c.before.output status c.after.output)
    → Says c t status
says_listed c t names status work same (inl done) = subst (λ (s : Status). Says c t s) (sym done.0) (inr (inl (record { names = names; work = work; same = same; written = done.1 })))
says_listed c t names status work same (inr (inl cut)) = says_some c t status (record { names = names; work = work; same = same; written = cut.1 }) cut.0
says_listed c t names status work same (inr (inr told)) = says_by c t F.Memory status tt (inl same) told.told

-- a call whose schema's names were listed
pub ended_listed : (c : Call) (job : Job) (t : Taking) (names : List (List ℕ)) (status : Status) → c.job ≡ Some job → IsTaking job c.before.supply t → job_work job t ≡ lists names
    → c.after.moment ≡ c.before.moment → ListedAs names c.before.output status c.after.output → Ended c status
ended_listed c job t names status named a work same listed =
    record { taking = t; taken = are_taken c job t named a; says = says_listed c t names status (is_work c job t (lists names) named work) same listed.answer }

-- ---- a value that is created

-- a front of the line of its root
says_root : (c : Call) (t : Taking) (status : Status) → CreatesSome c t → CutAs c.before.output status c.after.output → Says c t status
says_root c t S.SinkFault some rose = (rose, inr (inr (inr (inl some))))
says_root c t S.Memory some rose = inr (inr (inr (inr (inl some))))
says_root c t S.Done some rose = absurd rose
says_root c t S.Refused some rose = absurd rose
says_root c t S.Words some rose = absurd rose
says_root c t S.Schema some rose = absurd rose
says_root c t S.Root some rose = absurd rose
says_root c t S.Input some rose = absurd rose
says_root c t S.StoreFault some rose = absurd rose
says_root c t S.Value some rose = absurd rose

due_made : (c : Call) (t : Taking) (rows : List Row) (n : TypeNo) (b : List ℕ) (f : CreateFault) → work_of c.job t ≡ makes rows n b → IsTable rows → CreateAnswer hash rows n b c.before.moment (Err f) c.after.moment → IsDue c t (made_fault f)
due_made c t rows n b (V.Refused r) work table answer = inr (inl (record { value = record { rows = rows; type = n; bytes = b; work = work }; table = table; refused = answer.0 }))
due_made c t rows n b V.Store work table answer = (answer.0, inr (inl (record { value = record { rows = rows; type = n; bytes = b; work = work }; tried = answer.1 })))
due_made c t rows n b (V.Clash id) work table answer = inr (inl (record { value = record { rows = rows; type = n; bytes = b; work = work }; table = table; clash = answer }))
due_made c t rows n b V.Memory work table answer = tt

leaves_made : (c : Call) (t : Taking) (rows : List Row) (n : TypeNo) (b : List ℕ) (f : CreateFault) → work_of c.job t ≡ makes rows n b → IsTable rows → CreateAnswer hash rows n b c.before.moment (Err f) c.after.moment → Leaves c t (made_fault f)
leaves_made c t rows n b (V.Refused r) work table answer = inl answer.1
leaves_made c t rows n b V.Store work table answer = inr (inl (record { value = record { rows = rows; type = n; bytes = b; work = work }; tried = answer.1 }))
leaves_made c t rows n b (V.Clash id) work table answer =
    inr (inl (record { value = record { rows = rows; type = n; bytes = b; work = work }; tried = answer.tried }))
leaves_made c t rows n b V.Memory work table answer = by answer where
  by : CreateAnswer hash rows n b c.before.moment (Err V.Memory) c.after.moment → Leaves c t F.Memory
  by (inl same) = inl same
  by (inr tried) = inr (inr (inl (record { value = record { rows = rows; type = n; bytes = b; work = work }; tried = tried })))

says_made : (c : Call) (t : Taking) (rows : List Row) (n : TypeNo) (b : List ℕ) (result : Result BlockId CreateFault) (status : Status) → work_of c.job t ≡ makes rows n b → IsTable rows
    → CreateAnswer hash rows n b c.before.moment result c.after.moment → MadeTold result c.before.output status c.after.output → Says c t status
says_made c t rows n b (Ok id) status work table answer (inl done) =
    subst (λ (s : Status). Says c t s) (sym done.0) (inr (inr (inl (record { value = record { rows = rows; type = n; bytes = b; work = work }; table = table; root = id; created = answer; written = done.1 }))))
says_made c t rows n b (Ok id) status work table answer (inr cut) =
    says_root c t status (record { value = record { rows = rows; type = n; bytes = b; work = work }; root = id; created = answer; written = cut.1 }) cut.0
says_made c t rows n b (Err f) status work table answer told =
    says_by c t (made_fault f) status (due_made c t rows n b f work table answer) (leaves_made c t rows n b f work table answer) told.told

pub ended_made : (c : Call) (job : Job) (t : Taking) (rows : List Row) (n : TypeNo) (b : List ℕ) (status : Status) → c.job ≡ Some job → IsTaking job c.before.supply t → job_work job t ≡ makes rows n b
    → MadeAs rows n b c.before.moment c.before.output status c.after.moment c.after.output → Ended c status
ended_made c job t rows n b status named a work made = record {
  taking = t;
  taken = are_taken c job t named a;
  says = says_made c t rows n b made.result status (is_work c job t (makes rows n b) named work) made.table made.creates.answer made.told;
}

-- ---- a value that is shown

-- a front of its line
says_shown : (c : Call) (t : Taking) (status : Status) → ShowsSome c t → CutAs c.before.output status c.after.output → Says c t status
says_shown c t S.SinkFault some rose = (rose, inr (inr (inr (inr (inl some)))))
says_shown c t S.Memory some rose = inr (inr (inr (inr (inr (inl some)))))
says_shown c t S.Done some rose = absurd rose
says_shown c t S.Refused some rose = absurd rose
says_shown c t S.Words some rose = absurd rose
says_shown c t S.Schema some rose = absurd rose
says_shown c t S.Root some rose = absurd rose
says_shown c t S.Input some rose = absurd rose
says_shown c t S.StoreFault some rose = absurd rose
says_shown c t S.Value some rose = absurd rose

says_json : (c : Call) (t : Taking) (json : List ℕ) (status : Status) → HasRoot c t (Some json) → Replied (reply_on (Some json)) S.Done c.before.output status c.after.output → Says c t status
says_json c t json status has (inl done) = subst (λ (s : Status). Says c t s) (sym done.0) (inr (inr (inr (inl (json, record { has = has; written = done.1 })))))
says_json c t json status has (inr cut) = says_shown c t status (record { json = Some json; has = has; written = cut.1 }) cut.0

says_reserved : (c : Call) (t : Taking) (status : Status) → HasRoot c t None → Replied (reply_on None) S.Refused c.before.output status c.after.output → Says c t status
says_reserved c t status has (inl done) = subst (λ (s : Status). Says c t s) (sym done.0) (inr (inl (record { has = has; written = done.1 })))
says_reserved c t status has (inr cut) = says_shown c t status (record { json = None; has = has; written = cut.1 }) cut.0

says_present : (c : Call) (t : Taking) (rows : List Row) (n : TypeNo) (id : List ℕ) (result : Result (List ℕ) ShowFault) (status : Status) → work_of c.job t ≡ opens rows n id → IsTable rows
    → Shows hash rows n id c.before.moment result c.after.moment → ShownTold result c.before.output status c.after.output → Says c t status
says_present c t rows n id (Ok json) status work table shows told =
    says_json c t json status (record { opened = record { rows = rows; type = n; root = id; work = work }; table = table; shown = shows.answer; reads = shows.reads; gets = shows.gets }) told
says_present c t rows n id (Err W.Reserved) status work table shows told =
    says_reserved c t status (record { opened = record { rows = rows; type = n; root = id; work = work }; table = table; shown = shows.answer; reads = shows.reads; gets = shows.gets }) told
says_present c t rows n id (Err (W.Block at why)) status work table shows told =
    let opened : OpensRoot c t = record { rows = rows; type = n; root = id; work = work } in
    says_by c t (F.Root at why) status (inr (inl (record { opened = opened; table = table; refused = shows.answer }))) (inr (inl (record { opened = opened; reads = shows.reads }))) told.told
says_present c t rows n id (Err W.Store) status work table shows told =
    let reads : ReadsRoot c t = record { opened = record { rows = rows; type = n; root = id; work = work }; reads = shows.reads } in
    says_by c t F.Store status (shows.answer, inr (inr (inl reads))) (inr (inr (inl reads))) told.told
says_present c t rows n id (Err W.Memory) status work table shows told =
    says_by c t F.Memory status tt (inr (inr (inr (inl (record { opened = record { rows = rows; type = n; root = id; work = work }; reads = shows.reads }))))) told.told

pub ended_shown : (c : Call) (job : Job) (t : Taking) (rows : List Row) (n : TypeNo) (id : List ℕ) (status : Status) → c.job ≡ Some job → IsTaking job c.before.supply t → job_work job t ≡ opens rows n id
    → ShownAs rows n id c.before.moment c.before.output status c.after.moment c.after.output → Ended c status
ended_shown c job t rows n id status named a work shown = record {
  taking = t;
  taken = are_taken c job t named a;
  says = says_present c t rows n id shown.result status (is_work c job t (opens rows n id) named work) shown.table shown.shows shown.told;
}

-- ---- a script that is answered

store_rose : (rows : List Row) (n : TypeNo) (start : Start) (m k : Moment) → Stops hash rows n start m P.Store k → Rose m.faults k.faults
store_rose rows n (B.Root root) m k rose = rose
store_rose rows n B.Empty m k rose = rose

mismatch_same : (rows : List Row) (n : TypeNo) (start : Start) (m k : Moment) → Stops hash rows n start m P.Mismatch k → k ≡ m
mismatch_same rows n (B.Root root) m k stops = absurd stops
mismatch_same rows n B.Empty m k stops = stops.1

module _ (c : Call) (t : Taking) (rows : List Row) (n : TypeNo) (start : Start) (b : List ℕ) (work : work_of c.job t ≡ answers rows n start b) (table : IsTable rows) where
  asked : Asks hash rows n start c.before.moment c.after.moment → AsksScript c t
  asked asks = record { script = record { rows = rows; type = n; start = start; bytes = b; work = work }; asks = asks }

  stopped : (f : StartFault) → Stops hash rows n start c.before.moment f c.after.moment → StopsScript c t f
  stopped f stops = record { script = record { rows = rows; type = n; start = start; bytes = b; work = work }; table = table; stops = stops }

  due_started : (f : StartFault) → Stops hash rows n start c.before.moment f c.after.moment → Asks hash rows n start c.before.moment c.after.moment → IsDue c t (start_fault f)
  due_started (P.Block id why) stops asks = inl (stopped (P.Block id why) stops)
  due_started P.Mismatch stops asks = inl (refl, stopped P.Mismatch stops)
  due_started P.Store stops asks = (store_rose rows n start c.before.moment c.after.moment stops, inl (asked asks))
  due_started (P.Clash id) stops asks = inl (stopped (P.Clash id) stops)
  due_started P.Memory stops asks = tt

  leaves_started : (f : StartFault) → Stops hash rows n start c.before.moment f c.after.moment → Asks hash rows n start c.before.moment c.after.moment → Leaves c t (start_fault f)
  leaves_started (P.Block id why) stops asks = inl (asked asks)
  leaves_started P.Mismatch stops asks = inl (mismatch_same rows n start c.before.moment c.after.moment stops)
  leaves_started P.Store stops asks = inl (asked asks)
  leaves_started (P.Clash id) stops asks = inl (asked asks)
  leaves_started P.Memory stops asks = inr (inl (asked asks))

  all_of : (refused : Bool) (behind : Output) → c.after.output ≡ behind → ScriptAll rows n start b c.before.moment c.before.output refused c.after.moment behind → AnswersAll c t refused
  all_of refused behind same all = record {
    script = record { rows = rows; type = n; start = start; bytes = b; work = work };
    table = table;
    all = subst (λ (o : Output). ScriptAll rows n start b c.before.moment c.before.output refused c.after.moment o) (sym same) all;
  }

  some_of : (behind : Output) → c.after.output ≡ behind → ScriptSome rows n start b c.before.moment c.before.output c.after.moment behind → AnswersSome c t
  some_of behind same some = record {
    script = record { rows = rows; type = n; start = start; bytes = b; work = work };
    table = table;
    some = subst (λ (o : Output). ScriptSome rows n start b c.before.moment c.before.output c.after.moment o) (sym same) some;
  }

  says_answered : (result : Result Bool ScriptFault) (behind : Output) (status : Status) → ScriptAnswer rows n start b c.before.moment c.before.output result c.after.moment behind → AnsweredTold result behind status c.after.output → Says c t status
  says_answered (Ok false) behind status answer told = subst (λ (s : Status). Says c t s) (sym told.0) (inl (all_of false behind told.1 answer))
  says_answered (Ok true) behind status answer told = subst (λ (s : Status). Says c t s) (sym told.0) (inl (all_of true behind told.1 answer))
  says_answered (Err (X.Start f)) behind status answer told =
      says_by c t (start_fault f) status (due_started f answer.0 answer.1) (leaves_started f answer.0 answer.1) (subst (λ (o : Output). ToldAs (start_fault f) o status c.after.output) answer.2 told).told
  says_answered (Err (X.Cut C.Sink)) behind status answer told =
      let rose = subst (λ (o : Output). Rose c.before.output.faults o.faults) (sym told.1) answer.0 in
      subst (λ (s : Status). Says c t s) (sym told.0) (rose, inr (inl (some_of behind told.1 answer.1)))
  says_answered (Err (X.Cut C.Memory)) behind status answer told = subst (λ (s : Status). Says c t s) (sym told.0) (inr (inr (inl (some_of behind told.1 answer))))

pub ended_answered : (c : Call) (job : Job) (t : Taking) (rows : List Row) (n : TypeNo) (start : Start) (b : List ℕ) (status : Status) → c.job ≡ Some job → IsTaking job c.before.supply t → job_work job t ≡ answers rows n start b
    → AnsweredAs rows n start b c.before.moment c.before.output status c.after.moment c.after.output → Ended c status
ended_answered c job t rows n start b status named a work answered = record {
  taking = t;
  taken = are_taken c job t named a;
  says = says_answered c t rows n start b (is_work c job t (answers rows n start b) named work) answered.table answered.result answered.behind status answered.scripts.answer answered.told;
}
