-- What each step before the lines answers.
use Rattle.std.specs.Prelude.{◌≡◌, ◌<◌, ℕ, List, length, Option, option_map, Result, Ok, Err, IfOk}
use Rattle.ild_compile.specs.Compile.{table, faulty, Compiles}
use Rattle.ild_data.specs.declared.id.BlockId.{BlockId}
use Rattle.ild_edges.specs.Count.{Rose}
use Rattle.ild_edges.specs.Inputs.{Supply, After, MayBe}
use Rattle.ild_edges.specs.declared.inputs.Taken.{Taken}
use Rattle.ild_schema.specs.Names.{declared_names, number_named}
use Rattle.ild_schema.specs.declared.row.Row.{Row}
use Rattle.ild_run.specs.declared.fault.Fault.{Fault}
use Rattle.ild_run.specs.declared.fault.Fault.TheVariants as F
use Rattle.ild_run.specs.declared.fault.Role.{Role}
use Rattle.ild_run.specs.declared.fault.Trouble.TheVariants as T
use Rattle.ild_run.specs.declared.open.Job.{Job as Held}
use Rattle.ild_run.specs.declared.open.Job.TheVariants as J
use Rattle.ild_run.specs.declared.open.Task.{Task}
use Rattle.ild_run.specs.declared.open.Task.TheVariants as P
use Rattle.ild_run_open.specs.declared.start.Start.{Start}
use Rattle.ild_run.specs.Words.{Job, checks, compares, runs, creates, shows, verifies, keeps, proves, migrates, start_of_text}
use Rattle.ild_script.specs.Path.{path_of}
use Rattle.ild_run.specs.Work.{Work, Taking, ends, lists, matches, answers, makes, opens, weighs, serves, seeks, moves, types_work, job_work, IsTaking, TakesForRole}

-- the job that the program holds
abbrev pub job_seen : Held → Job
job_seen (J.Check schema) = checks schema.now
job_seen (J.Compat schema next ty) = compares schema.now next.now ty.now
job_seen (J.Run schema ty start script) = runs schema.now ty.now start script.now
job_seen (J.New schema ty value) = creates schema.now ty.now value.now
job_seen (J.Show schema ty root) = shows schema.now ty.now root.0
job_seen (J.Verify schema ty root path proof) = verifies schema.now ty.now root.0 path proof.now
job_seen (J.Heads schema ty script) = keeps schema.now ty.now script.now
job_seen (J.Prove schema ty root path) = proves schema.now ty.now root.0 path
job_seen (J.Migrate schema ty root) = migrates schema.now ty.now root.0

-- what words ask for; memory may be wanting to read a root or a path
abbrev pub AsksFor : Option Job → Result (Option Held) Fault → Type 0
AsksFor job (Ok found) = option_map job_seen found ≡ job
AsksFor job (Err f) = f ≡ F.Memory

-- the block id that is asked for, or none
abbrev pub AsksRoot : Option (List ℕ) → Result (Option BlockId) Fault → Type 0
AsksRoot root (Ok found) = option_map (λ (id : BlockId). id.0) found ≡ root
AsksRoot root (Err f) = f ≡ F.Memory

abbrev pub AsksPath : List ℕ → Result (Option (List (List ℕ))) Fault → Type 0
AsksPath text (Ok found) = found ≡ path_of text
AsksPath text (Err f) = f ≡ F.Memory

abbrev pub AsksStart : List ℕ → Result (Option Start) Fault → Type 0
AsksStart text (Ok found) = found ≡ start_of_text text
AsksStart text (Err f) = f ≡ F.Memory

abbrev pub InputAnswer : Supply → Role → List ℕ → Result (List ℕ) Fault → Supply → Type 0
InputAnswer m role name (Ok b) n = MayBe m.files name (Taken.Bytes b)
InputAnswer m role name (Err (F.Input r T.Absent)) n = (r ≡ role) × MayBe m.files name Taken.Absent × Rose m.lacks n.lacks
InputAnswer m role name (Err (F.Input r T.Long)) n = (r ≡ role) × MayBe m.files name Taken.Long × Rose m.lacks n.lacks
InputAnswer m role name (Err (F.Input r T.Failed)) n = (r ≡ role) × Rose m.faults n.faults
InputAnswer m role name (Err F.Memory) n = Unit {0}
InputAnswer m role name (Err f) n = ⊥

-- taking the input of a role
pub record TakesInput (m : Supply) (role : Role) (name : List ℕ) (result : Result (List ℕ) Fault) (n : Supply) : Type 0 where
  pub answer : InputAnswer m role name result n
  pub after : After m n

-- compiling the bytes of a schema
abbrev pub CompileAnswer : List ℕ → Result (List Row) Fault → Type 0
CompileAnswer b (Ok rows) = Compiles b (table rows)
CompileAnswer b (Err (F.Schema f)) = Compiles b (faulty f)
CompileAnswer b (Err F.Memory) = Unit {0}
CompileAnswer b (Err f) = ⊥

-- the cause of a fault of the inputs
abbrev pub InputsFault : Supply → Job → Taking → Fault → Supply → Type 0
InputsFault m job t (F.Input role T.Failed) n = Rose m.faults n.faults × TakesForRole role job t
InputsFault m job t (F.Input role trouble) n = (job_work job t ≡ ends (F.Input role trouble)) × Rose m.lacks n.lacks
InputsFault m job t F.Words n = job_work job t ≡ ends F.Words
InputsFault m job t (F.Schema f) n = job_work job t ≡ ends (F.Schema f)
InputsFault m job t F.Memory n = Unit {0}
InputsFault m job t f n = ⊥

-- the work that a task is
abbrev pub work_seen : Task → Work
work_seen (P.List rows) = lists (declared_names rows)
work_seen (P.Compare rows m others n) = matches rows others m n
work_seen (P.Answer rows n start b) = answers rows n start b
work_seen (P.Create rows n b) = makes rows n b
work_seen (P.Show rows n id) = opens rows n id.0
work_seen (P.Verify rows n id path b) = weighs rows n id.0 path.now b
work_seen (P.Serve rows n b) = serves rows n b
work_seen (P.Prove rows n id path) = seeks rows n id.0 path.now
work_seen (P.Migrate rows n id name source) = moves rows n id.0 name.now source

-- a value has a type of its table
abbrev pub IsReady : Task → Type 0
IsReady (P.List rows) = Unit {0}
IsReady (P.Compare rows m others n) = (m.0 < length rows) × (n.0 < length others)
IsReady (P.Answer rows n start b) = n.0 < length rows
IsReady (P.Create rows n b) = n.0 < length rows
IsReady (P.Show rows n id) = n.0 < length rows
IsReady (P.Verify rows n id path b) = n.0 < length rows
IsReady (P.Serve rows n b) = n.0 < length rows
IsReady (P.Prove rows n id path) = n.0 < length rows
IsReady (P.Migrate rows n id name source) = n.0 < length rows

abbrev pub OpensAnswer : Supply → Job → Taking → Result Task Fault → Supply → Type 0
OpensAnswer m job t (Ok task) n = job_work job t ≡ work_seen task
OpensAnswer m job t (Err f) n = InputsFault m job t f n

-- the inputs are taken in order, as far as they lead
pub record TakesInputs (m : Supply) (job : Job) (result : Result Task Fault) (n : Supply) : Type 0 where
  pub taking : Taking
  pub taken : IsTaking job m taking
  pub answer : OpensAnswer m job taking result n
  pub ready : IfOk result IsReady
  pub after : After m n

-- the same from where the schema is compiled, in a call that came so far; job makes the job, from the schema's name
abbrev pub OpensBehind : Supply → List Row → (List ℕ → Job) → Result Task Fault → Supply → Type 0
OpensBehind k rows job result n =
    (m : Supply) (name bytes : List ℕ) → MayBe m.files name (Taken.Bytes bytes) → Compiles bytes (table rows) → After m k → TakesInputs m (job name) result n

-- and where the schema's bytes are these
abbrev pub OpensFrom : List ℕ → Supply → List Row → (List ℕ → Job) → Result Task Fault → Supply → Type 0
OpensFrom bytes k rows job result n =
    (m : Supply) (name : List ℕ) → MayBe m.files name (Taken.Bytes bytes) → Compiles bytes (table rows) → After m k → TakesInputs m (job name) result n

-- whether two tables have a type with one name
abbrev pub TypesAnswer : List Row → List Row → List ℕ → Result Task Fault → Type 0
TypesAnswer rows others ty (Ok task) = (types_work rows others (number_named ty rows) (number_named ty others) ≡ work_seen task) × IsReady task
TypesAnswer rows others ty (Err F.Words) = types_work rows others (number_named ty rows) (number_named ty others) ≡ ends F.Words
TypesAnswer rows others ty (Err f) = ⊥
