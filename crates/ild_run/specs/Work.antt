-- What a call has to do, by its words and its inputs.
use Rattle.std.specs.Prelude.{◌≡◌, ℕ, List, [], Option, Some, None}
use Rattle.ild_compile.specs.Compile.{Verdict, table, faulty, Compiles}
use Rattle.ild_edges.specs.Inputs.{Supply, MayBe}
use Rattle.ild_edges.specs.declared.inputs.Taken.{Taken}
use Rattle.ild_schema.specs.Names.{declared_names, number_named}
use Rattle.ild_schema.specs.declared.number.TypeNo.{TypeNo}
use Rattle.ild_schema.specs.declared.row.Row.{Row}
use Rattle.ild_run.specs.declared.fault.Fault.{Fault}
use Rattle.ild_run.specs.declared.fault.Fault.TheVariants as F
use Rattle.ild_run.specs.declared.fault.Role.{Role}
use Rattle.ild_run.specs.declared.fault.Trouble.TheVariants as T
use Rattle.ild_run_open.specs.declared.start.Start.{Start}
use Rattle.ild_run.specs.Words.{Job, checks, compares, runs, creates, shows, verifies, keeps, proves, migrates, name_of}

-- the call ends with a fault, lists names, answers the lines of a script on a value of a type of a table, which starts so, creates a value
-- of such a type from bytes, or opens the one that stands under a block id; or it tells how a type of a table and one of a later table compare,
-- or what bytes say, as a proof, of a path in the value of a type under a block id; or it answers the lines of a script over named heads, under
-- which values of a type of a table stand; or it proves what stands at a path in the value of a type under a block id; or it gives that value a
-- root that names its type so, and its schema by this text
pub data Work : Type 0 where
  ends : Fault → Work
  lists : List (List ℕ) → Work
  matches : List Row → List Row → TypeNo → TypeNo → Work
  answers : List Row → TypeNo → Start → List ℕ → Work
  makes : List Row → TypeNo → List ℕ → Work
  opens : List Row → TypeNo → List ℕ → Work
  weighs : List Row → TypeNo → List ℕ → List (List ℕ) → List ℕ → Work
  serves : List Row → TypeNo → List ℕ → Work
  seeks : List Row → TypeNo → List ℕ → List (List ℕ) → Work
  moves : List Row → TypeNo → List ℕ → List ℕ → List ℕ → Work

-- what is taken of the inputs in each role, or would be, and what the schema and a later one are compiled to, or none where memory is wanting
-- for it
pub record Taking : Type 0 where
  pub input : Role → Taken
  pub verdict : Option Verdict
  pub next : Option Verdict

-- what is taken as the schema, and what as the later schema, the script, the value or the proof
abbrev pub in_roles : Taken → Taken → Role → Taken
in_roles schema other Role.Schema = schema
in_roles schema other Role.Next = other
in_roles schema other Role.Script = other
in_roles schema other Role.Value = other
in_roles schema other Role.Proof = other

-- the script's input comes last
abbrev pub script_work : List Row → TypeNo → Start → Taken → Work
script_work rows n start Taken.Absent = ends (F.Input Role.Script T.Absent)
script_work rows n start Taken.Long = ends (F.Input Role.Script T.Long)
script_work rows n start (Taken.Bytes b) = answers rows n start b

abbrev pub heads_work : List Row → TypeNo → Taken → Work
heads_work rows n Taken.Absent = ends (F.Input Role.Script T.Absent)
heads_work rows n Taken.Long = ends (F.Input Role.Script T.Long)
heads_work rows n (Taken.Bytes b) = serves rows n b

-- so does a value's
abbrev pub value_work : List Row → TypeNo → Taken → Work
value_work rows n Taken.Absent = ends (F.Input Role.Value T.Absent)
value_work rows n Taken.Long = ends (F.Input Role.Value T.Long)
value_work rows n (Taken.Bytes b) = makes rows n b

-- and a proof's
abbrev pub proof_work : List Row → TypeNo → List ℕ → List (List ℕ) → Taken → Work
proof_work rows n id path Taken.Absent = ends (F.Input Role.Proof T.Absent)
proof_work rows n id path Taken.Long = ends (F.Input Role.Proof T.Long)
proof_work rows n id path (Taken.Bytes b) = weighs rows n id path b

-- the type's name has to be one of the table
abbrev pub type_work : List Row → Option ℕ → Taken → Work
type_work rows None value = ends F.Words
type_work rows (Some n) value = value_work rows (record { 0 = n }) value

abbrev pub run_work : List Row → Option ℕ → Start → Taken → Work
run_work rows None start script = ends F.Words
run_work rows (Some n) start script = script_work rows (record { 0 = n }) start script

abbrev pub root_work : List Row → Option ℕ → List ℕ → Work
root_work rows None id = ends F.Words
root_work rows (Some n) id = opens rows (record { 0 = n }) id

abbrev pub verify_work : List Row → Option ℕ → List ℕ → List (List ℕ) → Taken → Work
verify_work rows None id path proof = ends F.Words
verify_work rows (Some n) id path proof = proof_work rows (record { 0 = n }) id path proof

abbrev pub keep_work : List Row → Option ℕ → Taken → Work
keep_work rows None script = ends F.Words
keep_work rows (Some n) script = heads_work rows (record { 0 = n }) script

abbrev pub seek_work : List Row → Option ℕ → List ℕ → List (List ℕ) → Work
seek_work rows None id path = ends F.Words
seek_work rows (Some n) id path = seeks rows (record { 0 = n }) id path

abbrev pub move_work : List Row → Option ℕ → List ℕ → List ℕ → List ℕ → Work
move_work rows None id name source = ends F.Words
move_work rows (Some n) id name source = moves rows (record { 0 = n }) id name source

-- a later schema is taken and compiled once the first is; then the type's name has to be one of both tables
abbrev pub types_work : List Row → List Row → Option ℕ → Option ℕ → Work
types_work rows others None found = ends F.Words
types_work rows others (Some m) None = ends F.Words
types_work rows others (Some m) (Some n) = matches rows others (record { 0 = m }) (record { 0 = n })

abbrev pub next_compiled : List Row → List ℕ → Option Verdict → Work
next_compiled rows ty None = ends F.Memory
next_compiled rows ty (Some (faulty f)) = ends (F.Schema f)
next_compiled rows ty (Some (table others)) = types_work rows others (number_named ty rows) (number_named ty others)

abbrev pub next_work : List Row → List ℕ → Taken → Option Verdict → Work
next_work rows ty Taken.Absent verdict = ends (F.Input Role.Next T.Absent)
next_work rows ty Taken.Long verdict = ends (F.Input Role.Next T.Long)
next_work rows ty (Taken.Bytes b) verdict = next_compiled rows ty verdict

-- the text of a schema that was compiled
abbrev pub source_in : Taken → List ℕ
source_in (Taken.Bytes b) = b
source_in taken = []

-- what a job does with a table
abbrev pub table_work : Job → List Row → Taking → Work
table_work (checks schema) rows t = lists (declared_names rows)
table_work (compares schema next ty) rows t = next_work rows ty (t.input Role.Next) t.next
table_work (runs schema ty start script) rows t = run_work rows (number_named ty rows) start (t.input Role.Script)
table_work (creates schema ty value) rows t = type_work rows (number_named ty rows) (t.input Role.Value)
table_work (shows schema ty id) rows t = root_work rows (number_named ty rows) id
table_work (verifies schema ty id path proof) rows t = verify_work rows (number_named ty rows) id path (t.input Role.Proof)
table_work (keeps schema ty script) rows t = keep_work rows (number_named ty rows) (t.input Role.Script)
table_work (proves schema ty id path) rows t = seek_work rows (number_named ty rows) id path
table_work (migrates schema ty id) rows t = move_work rows (number_named ty rows) id ty (source_in (t.input Role.Schema))

-- after the schema's input comes its compilation
abbrev pub compiled_work : Job → Option Verdict → Taking → Work
compiled_work job None t = ends F.Memory
compiled_work job (Some (faulty f)) t = ends (F.Schema f)
compiled_work job (Some (table rows)) t = table_work job rows t

abbrev pub schema_work : Job → Taken → Option Verdict → Taking → Work
schema_work job Taken.Absent verdict t = ends (F.Input Role.Schema T.Absent)
schema_work job Taken.Long verdict t = ends (F.Input Role.Schema T.Long)
schema_work job (Taken.Bytes b) verdict t = compiled_work job verdict t

abbrev pub job_work : Job → Taking → Work
job_work job t = schema_work job (t.input Role.Schema) t.verdict t

-- the first of the words, the schema and what comes behind it decides
abbrev pub work_of : Option Job → Taking → Work
work_of None t = ends F.Words
work_of (Some job) t = job_work job t

-- the verdict is that of the schema's bytes
abbrev pub IsVerdict : Taken → Option Verdict → Type 0
IsVerdict (Taken.Bytes b) (Some v) = Compiles b v
IsVerdict taken verdict = Unit {0}

-- what is taken under a name
abbrev pub IsUnder : Supply → Taken → Option (List ℕ) → Type 0
IsUnder supply taken None = Unit {0}
IsUnder supply taken (Some name) = MayBe supply.files name taken

-- what is taken, or would be, under the name in each role
pub record IsTaking (job : Job) (supply : Supply) (t : Taking) : Type 0 where
  pub input : (role : Role) → IsUnder supply (t.input role) (name_of role job)
  pub verdict : IsVerdict (t.input Role.Schema) t.verdict
  pub next : IsVerdict (t.input Role.Next) t.next

abbrev pub AreTaken : Option Job → Supply → Taking → Type 0
AreTaken None supply t = Unit {0}
AreTaken (Some job) supply t = IsTaking job supply t

-- the schema has the type with this name
pub record IsTypeOpen (ty : List ℕ) (t : Taking) : Type 0 where
  pub bytes : List ℕ
  pub rows : List Row
  pub schema : t.input Role.Schema ≡ Taken.Bytes bytes
  pub verdict : t.verdict ≡ Some (table rows)
  pub number : ℕ
  pub named : number_named ty rows ≡ Some number

-- the schema is accepted
pub record IsTableOpen (t : Taking) : Type 0 where
  pub bytes : List ℕ
  pub rows : List Row
  pub schema : t.input Role.Schema ≡ Taken.Bytes bytes
  pub verdict : t.verdict ≡ Some (table rows)

-- a job leads up to taking an input: each to its schema, and where that is accepted, a comparison to the later schema; where the type of its values is there, a run, of one value or over named heads, to the script, and that of a
-- new value to the value, and what a proof is to say to the proof
abbrev pub TakesForRole : Role → Job → Taking → Type 0
TakesForRole Role.Schema job t = Unit {0}
TakesForRole Role.Next (compares schema next ty) t = IsTableOpen t
TakesForRole Role.Next job t = ⊥
TakesForRole Role.Script (runs schema ty start script) t = IsTypeOpen ty t
TakesForRole Role.Script (keeps schema ty script) t = IsTypeOpen ty t
TakesForRole Role.Script job t = ⊥
TakesForRole Role.Value (creates schema ty value) t = IsTypeOpen ty t
TakesForRole Role.Value job t = ⊥
TakesForRole Role.Proof (verifies schema ty id path proof) t = IsTypeOpen ty t
TakesForRole Role.Proof job t = ⊥

abbrev pub Reaches : Role → Option Job → Taking → Type 0
Reaches role None t = ⊥
Reaches role (Some job) t = TakesForRole role job t
