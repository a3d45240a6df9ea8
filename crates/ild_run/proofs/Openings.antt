-- Taking the inputs in order.
use Rattle.std.specs.List.{position_from}
use Rattle.std.specs.Prelude.{length, ◌<◌, ◌+◌, ◌∷◌, [], Bool, IfSome, option_map, cond}
use Rattle.std.proofs.Common.{◌≡◌, ℕ, ◌≤◌, List, true, false, IfOk, Option, Some, None, Result, Ok, Err, refl, sym, ap, ◌∙◌, subst, arith}
use Rattle.std.proofs.lemmas.Bool.{false≢true}
use Rattle.ild_compile.specs.Compile.{Verdict, table, faulty, Compiles}
use Rattle.ild_edges.specs.Inputs.{Supply, After, MayBe, taken_of, file_at}
use Rattle.ild_edges.proofs.After.{After-trans}
use Rattle.ild_edges.specs.declared.inputs.Taken.{Taken}
use Rattle.ild_data.specs.declared.id.BlockId.{BlockId}
use Rattle.ild_schema.specs.Names.{number_named, is_named}
use Rattle.ild_schema.specs.declared.number.TypeNo.{TypeNo}
use Rattle.ild_schema.specs.declared.row.Row.{Row}
use Rattle.ild_run.specs.declared.fault.Fault.{Fault}
use Rattle.ild_run.specs.declared.fault.Fault.TheVariants as F
use Rattle.ild_run.specs.declared.fault.Role.{Role}
use Rattle.ild_run.specs.declared.fault.Trouble.TheVariants as T
use Rattle.ild_run_open.specs.declared.start.Start.{Start}
use Rattle.ild_run.specs.Words.{Job, checks, compares, runs, creates, shows, verifies, keeps, proves, migrates, name_of}
use Rattle.ild_run.specs.Work.{Taking, in_roles, run_work, type_work, root_work, IsVerdict, IsUnder, IsTaking, AreTaken}
use Rattle.ild_run.specs.declared.open.Task.{Task}
use Rattle.ild_run.specs.declared.open.Task.TheVariants as P
use Rattle.ild_run.specs.Opening.{InputAnswer, TakesInput, CompileAnswer, OpensAnswer, IsReady, TakesInputs, OpensBehind}

-- something may be taken under each name
pub some_taken : (files : Option (List (List ℕ × List ℕ))) (name : List ℕ) → (t : Taken) × MayBe files name t
some_taken None name = (Taken.Absent, tt)
some_taken (Some files) name = (taken_of (file_at files name), refl)

some_under : (m : Supply) (name : Option (List ℕ)) → (t : Taken) × IsUnder m t name
some_under m None = (Taken.Absent, tt)
some_under m (Some name) = some_taken m.files name

-- the name of the input that a job takes beside its schema
abbrev other_name : Job → Option (List ℕ)
other_name (checks schema) = None
other_name (compares schema next ty) = Some next
other_name (runs schema ty start script) = Some script
other_name (creates schema ty value) = Some value
other_name (shows schema ty id) = None
other_name (verifies schema ty id path proof) = Some proof
other_name (keeps schema ty script) = Some script
other_name (proves schema ty id path) = None
other_name (migrates schema ty id) = None

-- it is the script's or the value's
other_role_is : (job : Job) (m : Supply) (other : Taken) → IsUnder m other (other_name job) → IsUnder m other (name_of Role.Script job) × IsUnder m other (name_of Role.Value job)
other_role_is (checks schema) m other is = (tt, tt)
other_role_is (compares schema next ty) m other is = (tt, tt)
other_role_is (runs schema ty start script) m other is = (is, tt)
other_role_is (creates schema ty value) m other is = (tt, is)
other_role_is (shows schema ty id) m other is = (tt, tt)
other_role_is (verifies schema ty id path proof) m other is = (tt, tt)
other_role_is (keeps schema ty script) m other is = (is, tt)
other_role_is (proves schema ty id path) m other is = (tt, tt)
other_role_is (migrates schema ty id) m other is = (tt, tt)

-- or the later schema's
next_role_is : (job : Job) (m : Supply) (other : Taken) → IsUnder m other (other_name job) → IsUnder m other (name_of Role.Next job)
next_role_is (checks schema) m other is = tt
next_role_is (compares schema next ty) m other is = is
next_role_is (runs schema ty start script) m other is = tt
next_role_is (creates schema ty value) m other is = tt
next_role_is (shows schema ty id) m other is = tt
next_role_is (verifies schema ty id path proof) m other is = tt
next_role_is (keeps schema ty script) m other is = tt
next_role_is (proves schema ty id path) m other is = tt
next_role_is (migrates schema ty id) m other is = tt

-- or the proof's
proof_role_is : (job : Job) (m : Supply) (other : Taken) → IsUnder m other (other_name job) → IsUnder m other (name_of Role.Proof job)
proof_role_is (checks schema) m other is = tt
proof_role_is (compares schema next ty) m other is = tt
proof_role_is (runs schema ty start script) m other is = tt
proof_role_is (creates schema ty value) m other is = tt
proof_role_is (shows schema ty id) m other is = tt
proof_role_is (verifies schema ty id path proof) m other is = is
proof_role_is (keeps schema ty script) m other is = tt
proof_role_is (proves schema ty id path) m other is = tt
proof_role_is (migrates schema ty id) m other is = tt

pub all_roles : (job : Job) (m : Supply) (schema other : Taken) → IsUnder m schema (name_of Role.Schema job) → IsUnder m other (other_name job) → (role : Role) → IsUnder m (in_roles schema other role) (name_of role job)
all_roles job m schema other one two Role.Schema = one
all_roles job m schema other one two Role.Next = next_role_is job m other two
all_roles job m schema other one two Role.Script = (other_role_is job m other two).0
all_roles job m schema other one two Role.Value = (other_role_is job m other two).1
all_roles job m schema other one two Role.Proof = proof_role_is job m other two

pub no_verdict : (t : Taken) → IsVerdict t None
no_verdict Taken.Absent = tt
no_verdict Taken.Long = tt
no_verdict (Taken.Bytes b) = tt

-- a call that ends before its second input
opens_before : (m n : Supply) (job : Job) (schema : Taken) (verdict : Option Verdict) (result : Result Task Fault) → IsUnder m schema (name_of Role.Schema job) → IsVerdict schema verdict
    → ((script : Taken) → OpensAnswer m job (record { input = in_roles schema script; verdict = verdict; next = None }) result n) → IfOk result IsReady → After m n → TakesInputs m job result n
opens_before m n job schema verdict result is says answer ready after =
    let other = some_under m (other_name job) in
    record {
      taking = record { input = in_roles schema other.0; verdict = verdict; next = None };
      taken = record { input = all_roles job m schema other.0 is other.1; verdict = says; next = no_verdict other.0 };
      answer = answer other.0;
      ready = ready;
      after = after;
    }

-- whatever a job is, something may be taken for it
job_taking : (job : Job) (m : Supply) → (t : Taking) × IsTaking job m t
job_taking job m =
    let schema = some_under m (name_of Role.Schema job) in
    let other = some_under m (other_name job) in
    (record { input = in_roles schema.0 other.0; verdict = None; next = None }, record { input = all_roles job m schema.0 other.0 schema.1 other.1; verdict = no_verdict schema.0; next = no_verdict other.0 })

pub taking_of : (job : Option Job) (m : Supply) → (t : Taking) × AreTaken job m t
taking_of None m = (record { input = in_roles Taken.Absent Taken.Absent; verdict = None; next = None }, tt)
taking_of (Some job) m = job_taking job m

other_role : Role.Script ≡ Role.Schema → ⊥
other_role e = cc

next_role : Role.Next ≡ Role.Schema → ⊥
next_role e = cc

next_script : Role.Next ≡ Role.Script → ⊥
next_script e = cc

next_value : Role.Next ≡ Role.Value → ⊥
next_value e = cc

value_role : Role.Value ≡ Role.Schema → ⊥
value_role e = cc

value_script : Role.Value ≡ Role.Script → ⊥
value_script e = cc

-- a proof's input is none of another role
abbrev is_proof : Role → Bool
is_proof Role.Schema = false
is_proof Role.Next = false
is_proof Role.Script = false
is_proof Role.Value = false
is_proof Role.Proof = true

pub proof_role : (role : Role) → Role.Proof ≡ role → is_proof role ≡ false → ⊥
proof_role role e other = false≢true (sym other ∙ sym (ap is_proof e))

under : (m : Supply) (t : Taken) (name : List ℕ) (found : Option (List ℕ)) → found ≡ Some name → MayBe m.files name t → IsUnder m t found
under m t name found named is = subst (λ (x : Option (List ℕ)). IsUnder m t x) (sym named) is

-- a call that ends at the schema's input
pub opens_schema : (m n : Supply) (job : Job) (name : List ℕ) (f : Fault) → name_of Role.Schema job ≡ Some name → InputAnswer m Role.Schema name (Err f) n → After m n → TakesInputs m job (Err f) n
opens_schema m n job name (F.Input Role.Schema T.Absent) named answer after = opens_before m n job Taken.Absent None _ (under m Taken.Absent name (name_of Role.Schema job) named answer.1) tt (λ script. (refl, answer.2)) tt after
opens_schema m n job name (F.Input Role.Schema T.Long) named answer after = opens_before m n job Taken.Long None _ (under m Taken.Long name (name_of Role.Schema job) named answer.1) tt (λ script. (refl, answer.2)) tt after
opens_schema m n job name (F.Input Role.Schema T.Failed) named answer after =
    let some = some_under m (name_of Role.Schema job) in opens_before m n job some.0 None _ some.1 (no_verdict some.0) (λ script. (answer.1, tt)) tt after
opens_schema m n job name (F.Input Role.Next T.Absent) named answer after = absurd (next_role answer.0)
opens_schema m n job name (F.Input Role.Next T.Long) named answer after = absurd (next_role answer.0)
opens_schema m n job name (F.Input Role.Next T.Failed) named answer after = absurd (next_role answer.0)
opens_schema m n job name (F.Input Role.Script T.Absent) named answer after = absurd (other_role answer.0)
opens_schema m n job name (F.Input Role.Script T.Long) named answer after = absurd (other_role answer.0)
opens_schema m n job name (F.Input Role.Script T.Failed) named answer after = absurd (other_role answer.0)
opens_schema m n job name (F.Input Role.Value T.Absent) named answer after = absurd (value_role answer.0)
opens_schema m n job name (F.Input Role.Value T.Long) named answer after = absurd (value_role answer.0)
opens_schema m n job name (F.Input Role.Value T.Failed) named answer after = absurd (value_role answer.0)
opens_schema m n job name (F.Input Role.Proof T.Absent) named answer after = absurd (proof_role Role.Schema answer.0 refl)
opens_schema m n job name (F.Input Role.Proof T.Long) named answer after = absurd (proof_role Role.Schema answer.0 refl)
opens_schema m n job name (F.Input Role.Proof T.Failed) named answer after = absurd (proof_role Role.Schema answer.0 refl)
opens_schema m n job name F.Memory named answer after =
    let some = some_under m (name_of Role.Schema job) in opens_before m n job some.0 None _ some.1 (no_verdict some.0) (λ script. tt) tt after
opens_schema m n job name F.Words named answer after = absurd answer
opens_schema m n job name (F.Schema f) named answer after = absurd answer
opens_schema m n job name F.Store named answer after = absurd answer
opens_schema m n job name (F.Clash id) named answer after = absurd answer
opens_schema m n job name (F.Value r) named answer after = absurd answer
opens_schema m n job name F.Proof named answer after = absurd answer
opens_schema m n job name (F.Root id why) named answer after = absurd answer

-- a call that ends at the schema's compilation
pub opens_faulty : (m n : Supply) (job : Job) (name b : List ℕ) (f : Fault) → name_of Role.Schema job ≡ Some name → MayBe m.files name (Taken.Bytes b) → CompileAnswer b (Err f) → After m n → TakesInputs m job (Err f) n
opens_faulty m n job name b (F.Schema f) named is answer after = opens_before m n job (Taken.Bytes b) (Some (faulty f)) _ (under m (Taken.Bytes b) name (name_of Role.Schema job) named is) answer (λ script. refl) tt after
opens_faulty m n job name b F.Memory named is answer after = opens_before m n job (Taken.Bytes b) None _ (under m (Taken.Bytes b) name (name_of Role.Schema job) named is) tt (λ script. tt) tt after
opens_faulty m n job name b (F.Input role trouble) named is answer after = absurd answer
opens_faulty m n job name b F.Words named is answer after = absurd answer
opens_faulty m n job name b F.Store named is answer after = absurd answer
opens_faulty m n job name b (F.Clash id) named is answer after = absurd answer
opens_faulty m n job name b (F.Value r) named is answer after = absurd answer
opens_faulty m n job name b F.Proof named is answer after = absurd answer
opens_faulty m n job name b (F.Root id why) named is answer after = absurd answer

-- a call whose schema is checked
pub opens_checked : (m n : Supply) (name : List ℕ) (b : List ℕ) (rows : List Row) → MayBe m.files name (Taken.Bytes b) → Compiles b (table rows) → After m n → TakesInputs m (checks name) (Ok (P.List rows)) n
opens_checked m n name b rows is compiles after = opens_before m n (checks name) (Taken.Bytes b) (Some (table rows)) _ is compiles (λ script. refl) tt after

-- ---- a value that is to be created or shown

-- a call that ends with its schema
pub opens_with : (m n : Supply) (job : Job) (name b : List ℕ) (rows : List Row) (result : Result Task Fault) → name_of Role.Schema job ≡ Some name → MayBe m.files name (Taken.Bytes b) → Compiles b (table rows)
    → ((t : Taken) → OpensAnswer m job (record { input = in_roles (Taken.Bytes b) t; verdict = Some (table rows); next = None }) result n) → IfOk result IsReady → After m n → TakesInputs m job result n
opens_with m n job name b rows result named is compiles answer ready after =
    opens_before m n job (Taken.Bytes b) (Some (table rows)) result (under m (Taken.Bytes b) name (name_of Role.Schema job) named is) compiles answer ready after

-- the table has no type of this name
pub opens_unnamed : (k : Supply) (rows : List Row) (ty value : List ℕ) → number_named ty rows ≡ None → OpensBehind k rows (λ name. creates name ty value) (Err F.Words) k
opens_unnamed k rows ty value none m name b is compiles after =
    opens_with m k (creates name ty value) name b rows (Err F.Words) refl is compiles (λ t. ap (λ found. type_work rows found t) none) tt after

pub opens_no_type : (k : Supply) (rows : List Row) (ty id : List ℕ) → number_named ty rows ≡ None → OpensBehind k rows (λ name. shows name ty id) (Err F.Words) k
opens_no_type k rows ty id none m name b is compiles after =
    opens_with m k (shows name ty id) name b rows (Err F.Words) refl is compiles (λ t. ap (λ found. root_work rows found id) none) tt after

pub opens_root : (k : Supply) (rows : List Row) (ty : List ℕ) (id : BlockId) (t : TypeNo) → number_named ty rows ≡ Some t.0 → t.0 < length rows → OpensBehind k rows (λ name. shows name ty id.0) (Ok (P.Show rows t id)) k
opens_root k rows ty id t named within m name b is compiles after =
    opens_with m k (shows name ty id.0) name b rows (Ok (P.Show rows t id)) refl is compiles (λ x. ap (λ found. root_work rows found id.0) named) within after

abbrev value_taking : List ℕ → List Row → Taken → Taking
value_taking b rows value = record { input = in_roles (Taken.Bytes b) value; verdict = Some (table rows); next = None }

-- the task that the value's input is
abbrev pub value_task : List Row → TypeNo → Result (List ℕ) Fault → Result Task Fault
value_task rows n (Ok b) = Ok (P.Create rows n b)
value_task rows n (Err f) = Err f

value_answer : (m k n : Supply) (name ty value b : List ℕ) (rows : List Row) (t : TypeNo) (result : Result (List ℕ) Fault) → number_named ty rows ≡ Some t.0 → k.files ≡ m.files → m.lacks ≤ k.lacks → m.faults ≤ k.faults
    → InputAnswer k Role.Value value result n → (x : Taken) × MayBe m.files value x × OpensAnswer m (creates name ty value) (value_taking b rows x) (value_task rows t result) n
value_answer m k n name ty value b rows t (Ok c) named same lacks faults answer =
    (Taken.Bytes c, subst (λ (x : Option (List (List ℕ × List ℕ))). MayBe x value (Taken.Bytes c)) same answer, ap (λ found. type_work rows found (Taken.Bytes c)) named)
value_answer m k n name ty value b rows t (Err (F.Input Role.Value T.Absent)) named same lacks faults answer =
    (Taken.Absent, subst (λ (x : Option (List (List ℕ × List ℕ))). MayBe x value Taken.Absent) same answer.1, (ap (λ found. type_work rows found Taken.Absent) named, let rose = answer.2 in omega arith))
value_answer m k n name ty value b rows t (Err (F.Input Role.Value T.Long)) named same lacks faults answer =
    (Taken.Long, subst (λ (x : Option (List (List ℕ × List ℕ))). MayBe x value Taken.Long) same answer.1, (ap (λ found. type_work rows found Taken.Long) named, let rose = answer.2 in omega arith))
value_answer m k n name ty value b rows t (Err (F.Input Role.Value T.Failed)) named same lacks faults answer =
    let some = some_taken m.files value in
    (some.0, some.1, (let rose = answer.1 in omega arith, record { bytes = b; rows = rows; schema = refl; verdict = refl; number = t.0; named = named }))
value_answer m k n name ty value b rows t (Err (F.Input Role.Schema T.Absent)) named same lacks faults answer = absurd (value_role (sym answer.0))
value_answer m k n name ty value b rows t (Err (F.Input Role.Schema T.Long)) named same lacks faults answer = absurd (value_role (sym answer.0))
value_answer m k n name ty value b rows t (Err (F.Input Role.Schema T.Failed)) named same lacks faults answer = absurd (value_role (sym answer.0))
value_answer m k n name ty value b rows t (Err (F.Input Role.Next T.Absent)) named same lacks faults answer = absurd (next_value answer.0)
value_answer m k n name ty value b rows t (Err (F.Input Role.Next T.Long)) named same lacks faults answer = absurd (next_value answer.0)
value_answer m k n name ty value b rows t (Err (F.Input Role.Next T.Failed)) named same lacks faults answer = absurd (next_value answer.0)
value_answer m k n name ty value b rows t (Err (F.Input Role.Script T.Absent)) named same lacks faults answer = absurd (value_script (sym answer.0))
value_answer m k n name ty value b rows t (Err (F.Input Role.Script T.Long)) named same lacks faults answer = absurd (value_script (sym answer.0))
value_answer m k n name ty value b rows t (Err (F.Input Role.Script T.Failed)) named same lacks faults answer = absurd (value_script (sym answer.0))
value_answer m k n name ty value b rows t (Err (F.Input Role.Proof T.Absent)) named same lacks faults answer = absurd (proof_role Role.Value answer.0 refl)
value_answer m k n name ty value b rows t (Err (F.Input Role.Proof T.Long)) named same lacks faults answer = absurd (proof_role Role.Value answer.0 refl)
value_answer m k n name ty value b rows t (Err (F.Input Role.Proof T.Failed)) named same lacks faults answer = absurd (proof_role Role.Value answer.0 refl)
value_answer m k n name ty value b rows t (Err F.Memory) named same lacks faults answer = let some = some_taken m.files value in (some.0, some.1, tt)
value_answer m k n name ty value b rows t (Err F.Words) named same lacks faults answer = absurd answer
value_answer m k n name ty value b rows t (Err (F.Schema f)) named same lacks faults answer = absurd answer
value_answer m k n name ty value b rows t (Err F.Store) named same lacks faults answer = absurd answer
value_answer m k n name ty value b rows t (Err (F.Clash id)) named same lacks faults answer = absurd answer
value_answer m k n name ty value b rows t (Err (F.Value r)) named same lacks faults answer = absurd answer
value_answer m k n name ty value b rows t (Err F.Proof) named same lacks faults answer = absurd answer
value_answer m k n name ty value b rows t (Err (F.Root id why)) named same lacks faults answer = absurd answer

value_ready : (rows : List Row) (t : TypeNo) (result : Result (List ℕ) Fault) → t.0 < length rows → IfOk (value_task rows t result) IsReady
value_ready rows t (Ok b) within = within
value_ready rows t (Err f) within = tt

pub opens_value : (k n : Supply) (rows : List Row) (ty value : List ℕ) (t : TypeNo) (result : Result (List ℕ) Fault) → number_named ty rows ≡ Some t.0 → t.0 < length rows
    → TakesInput k Role.Value value result n → OpensBehind k rows (λ name. creates name ty value) (value_task rows t result) n
opens_value k n rows ty value t result named within takes m name b is compiles after =
    let x = value_answer m k n name ty value b rows t result named after.files after.lacks after.faults takes.answer in
    record {
      taking = value_taking b rows x.0;
      taken = record { input = all_roles (creates name ty value) m (Taken.Bytes b) x.0 is x.1; verdict = compiles; next = no_verdict x.0 };
      answer = x.2;
      ready = value_ready rows t result within;
      after = After-trans m k n after takes.after;
    }

-- ---- a script that is to be run

-- the task that the script's input is
abbrev pub script_task : List Row → TypeNo → Start → Result (List ℕ) Fault → Result Task Fault
script_task rows n start (Ok b) = Ok (P.Answer rows n start b)
script_task rows n start (Err f) = Err f

script_answer : (m k n : Supply) (name ty script b : List ℕ) (rows : List Row) (t : TypeNo) (start : Start) (result : Result (List ℕ) Fault) → number_named ty rows ≡ Some t.0 → k.files ≡ m.files → m.lacks ≤ k.lacks → m.faults ≤ k.faults
    → InputAnswer k Role.Script script result n → (x : Taken) × MayBe m.files script x × OpensAnswer m (runs name ty start script) (value_taking b rows x) (script_task rows t start result) n
script_answer m k n name ty script b rows t start (Ok c) named same lacks faults answer =
    (Taken.Bytes c, subst (λ (x : Option (List (List ℕ × List ℕ))). MayBe x script (Taken.Bytes c)) same answer, ap (λ found. run_work rows found start (Taken.Bytes c)) named)
script_answer m k n name ty script b rows t start (Err (F.Input Role.Script T.Absent)) named same lacks faults answer =
    (Taken.Absent, subst (λ (x : Option (List (List ℕ × List ℕ))). MayBe x script Taken.Absent) same answer.1, (ap (λ found. run_work rows found start Taken.Absent) named, let rose = answer.2 in omega arith))
script_answer m k n name ty script b rows t start (Err (F.Input Role.Script T.Long)) named same lacks faults answer =
    (Taken.Long, subst (λ (x : Option (List (List ℕ × List ℕ))). MayBe x script Taken.Long) same answer.1, (ap (λ found. run_work rows found start Taken.Long) named, let rose = answer.2 in omega arith))
script_answer m k n name ty script b rows t start (Err (F.Input Role.Script T.Failed)) named same lacks faults answer =
    let some = some_taken m.files script in
    (some.0, some.1, (let rose = answer.1 in omega arith, record { bytes = b; rows = rows; schema = refl; verdict = refl; number = t.0; named = named }))
script_answer m k n name ty script b rows t start (Err (F.Input Role.Schema T.Absent)) named same lacks faults answer = absurd (other_role (sym answer.0))
script_answer m k n name ty script b rows t start (Err (F.Input Role.Schema T.Long)) named same lacks faults answer = absurd (other_role (sym answer.0))
script_answer m k n name ty script b rows t start (Err (F.Input Role.Schema T.Failed)) named same lacks faults answer = absurd (other_role (sym answer.0))
script_answer m k n name ty script b rows t start (Err (F.Input Role.Next T.Absent)) named same lacks faults answer = absurd (next_script answer.0)
script_answer m k n name ty script b rows t start (Err (F.Input Role.Next T.Long)) named same lacks faults answer = absurd (next_script answer.0)
script_answer m k n name ty script b rows t start (Err (F.Input Role.Next T.Failed)) named same lacks faults answer = absurd (next_script answer.0)
script_answer m k n name ty script b rows t start (Err (F.Input Role.Value T.Absent)) named same lacks faults answer = absurd (value_script answer.0)
script_answer m k n name ty script b rows t start (Err (F.Input Role.Value T.Long)) named same lacks faults answer = absurd (value_script answer.0)
script_answer m k n name ty script b rows t start (Err (F.Input Role.Value T.Failed)) named same lacks faults answer = absurd (value_script answer.0)
script_answer m k n name ty script b rows t start (Err (F.Input Role.Proof T.Absent)) named same lacks faults answer = absurd (proof_role Role.Script answer.0 refl)
script_answer m k n name ty script b rows t start (Err (F.Input Role.Proof T.Long)) named same lacks faults answer = absurd (proof_role Role.Script answer.0 refl)
script_answer m k n name ty script b rows t start (Err (F.Input Role.Proof T.Failed)) named same lacks faults answer = absurd (proof_role Role.Script answer.0 refl)
script_answer m k n name ty script b rows t start (Err F.Memory) named same lacks faults answer = let some = some_taken m.files script in (some.0, some.1, tt)
script_answer m k n name ty script b rows t start (Err F.Words) named same lacks faults answer = absurd answer
script_answer m k n name ty script b rows t start (Err (F.Schema f)) named same lacks faults answer = absurd answer
script_answer m k n name ty script b rows t start (Err F.Store) named same lacks faults answer = absurd answer
script_answer m k n name ty script b rows t start (Err (F.Clash id)) named same lacks faults answer = absurd answer
script_answer m k n name ty script b rows t start (Err (F.Value r)) named same lacks faults answer = absurd answer
script_answer m k n name ty script b rows t start (Err F.Proof) named same lacks faults answer = absurd answer
script_answer m k n name ty script b rows t start (Err (F.Root id why)) named same lacks faults answer = absurd answer

script_ready : (rows : List Row) (t : TypeNo) (start : Start) (result : Result (List ℕ) Fault) → t.0 < length rows → IfOk (script_task rows t start result) IsReady
script_ready rows t start (Ok b) within = within
script_ready rows t start (Err f) within = tt

pub opens_script : (k n : Supply) (rows : List Row) (ty script : List ℕ) (t : TypeNo) (start : Start) (result : Result (List ℕ) Fault) → number_named ty rows ≡ Some t.0 → t.0 < length rows
    → TakesInput k Role.Script script result n → OpensBehind k rows (λ name. runs name ty start script) (script_task rows t start result) n
opens_script k n rows ty script t start result named within takes m name b is compiles after =
    let x = script_answer m k n name ty script b rows t start result named after.files after.lacks after.faults takes.answer in
    record {
      taking = value_taking b rows x.0;
      taken = record { input = all_roles (runs name ty start script) m (Taken.Bytes b) x.0 is x.1; verdict = compiles; next = no_verdict x.0 };
      answer = x.2;
      ready = script_ready rows t start result within;
      after = After-trans m k n after takes.after;
    }

pub opens_unscripted : (k : Supply) (rows : List Row) (ty : List ℕ) (start : Start) (script : List ℕ) → number_named ty rows ≡ None → OpensBehind k rows (λ name. runs name ty start script) (Err F.Words) k
opens_unscripted k rows ty start script none m name b is compiles after =
    opens_with m k (runs name ty start script) name b rows (Err F.Words) refl is compiles (λ t. ap (λ found. run_work rows found start t) none) tt after

-- the type that has a name is in the table
found_within : {A : Type 0} (p : A → Bool) (xs : List A) (k : ℕ) → IfSome (position_from p k xs) (λ i. i < k + length xs)
found_within p [] k = tt
found_within p (x ∷ xs) k = by (p x) (found_within p xs (k + 1))
  where
    by : (b : Bool) → IfSome (position_from p (k + 1) xs) (λ i. i < k + 1 + length xs) → IfSome (cond b (Some k) (position_from p (k + 1) xs)) (λ i. i < k + length (x ∷ xs))
    by true found = omega arith
    by false found = grow (position_from p (k + 1) xs) found
      where
        grow : (o : Option ℕ) → IfSome o (λ i. i < k + 1 + length xs) → IfSome o (λ i. i < k + length (x ∷ xs))
        grow None found = tt
        grow (Some i) found = omega (arith, found)

pub named_within : (rows : List Row) (ty : List ℕ) (found : Option TypeNo) → option_map (λ (n : TypeNo). n.0) found ≡ number_named ty rows → IfSome found (λ n. n.0 < length rows)
named_within rows ty None is = tt
named_within rows ty (Some n) is =
    let same : 0 + length rows ≡ length rows = omega arith in
    let found = subst (λ (k : ℕ). IfSome (position_from (is_named ty) 0 rows) (λ i. i < k)) same (found_within (is_named ty) rows 0) in
    subst (λ (o : Option ℕ). IfSome o (λ i. i < length rows)) (sym is) found
