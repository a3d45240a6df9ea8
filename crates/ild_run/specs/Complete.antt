-- A call that nothing outside stands in the way of does all that its words ask for, unless memory is wanting.
use Rattle.std.specs.Prelude.{◌≡◌, ◌⊎◌, ℕ, List, Bool, Option, Some, None, Contains, if◌then◌else◌}
use Rattle.std.specs.List.{list_any}
use Rattle.ild_compile.specs.Compile.{Compiles, table}
use Rattle.ild_run_create.specs.Makes.{Makes}
use Rattle.ild_run_create.specs.declared.fault.Refusal.{Refusal}
use Rattle.ild_run_create.specs.declared.fault.Refusal.TheVariants as N
use Rattle.ild_data.specs.Data.{Data}
use Rattle.ild_data.specs.Spell.{id_of}
use Rattle.ild_data.specs.declared.id.BlockId.{BlockId}
use Rattle.ild_edges.specs.Among.{IsIn}
use Rattle.ild_edges.specs.Count.{Rose}
use Rattle.ild_edges.specs.Inputs.{taken_of, file_at}
use Rattle.ild_edges.specs.Sink.{Appends}
use Rattle.ild_edges.specs.Store.{Moment, block_at}
use Rattle.ild_edges.specs.Told.{IfTold}
use Rattle.ild_edges.specs.declared.inputs.Taken.TheVariants as Taken
use Rattle.ild_named.specs.Named.{named}
use Rattle.ild_named_root.specs.Names.{HasRoom, new_blocks}
use Rattle.ild_run_named.specs.Migrates.{IsMovable, IsTooLong}
use Rattle.ild_path_edits.specs.Judged.{Tests, AreTests}
use Rattle.ild_run_open.specs.declared.start.Start.{Start}
use Rattle.ild_run_script.specs.Plainly.{MayBatch, MayCome, StartsAt, plain_due}
use Rattle.ild_json.specs.Printing.{json_text}
use Rattle.ild_schema.specs.Slots.{plainly}
use Rattle.ild_typed.specs.Shown.{shown}
use Rattle.ild_schema.specs.Names.{declared_names, number_named}
use Rattle.ild_schema.specs.Value.{Value as Typed}
use Rattle.ild_schema.specs.declared.number.TypeNo.{TypeNo}
use Rattle.ild_schema.specs.declared.row.Row.{Row}
use Rattle.ild_script.specs.declared.reply.Reply.{Reply}
use Rattle.ild_script.specs.declared.reply.Reply.TheVariants as R
use Rattle.ild_script.specs.Line.{lines_of}
use Rattle.ild_script.specs.Reply.{is_no, reply_text}
use Rattle.ild_script_session.specs.Session.{State, idle}
use Rattle.ild_script_session.specs.Run.{texts}
use Rattle.ild_script_session.specs.Plain.{PlainRun, AreApart, AreAllApart}
use Rattle.ild_typed.specs.Stands.{bare, root_id, blocks_of as typed_blocks, Stands}
use Rattle.ild_compat.specs.declared.rule.Differ.{Differ}
use Rattle.ild_run_compare.specs.Compared.{IsTold}
use Rattle.ild_inclusion.specs.declared.answer.Answer.{Answer}
use Rattle.ild_inclusion_prove.specs.Proves.{ProvesOf}
use Rattle.ild_run_prove.specs.Proved.{HasProof}
use Rattle.ild_run_heads.specs.Heads.{HeadsDone}
use Rattle.ild_run_work.specs.Rules.{rules_of}
use Rattle.ild_run_verify.specs.Verified.{ProofSays, SaysNothing, WritesLine}
use Rattle.ild_run.specs.Fault.{fault_text}
use Rattle.ild_run.specs.Words.{checks, compares, runs, creates, shows, verifies, keeps, proves, migrates}
use Rattle.ild_run.specs.Listed.{Lists}
use Rattle.ild_run.specs.Shown.{hash, reserved}
use Rattle.ild_run.specs.Ended.{Call}
use Rattle.ild_run.specs.declared.fault.Fault.TheVariants as F
use Rattle.ild_run.specs.declared.status.Status.{Status}
use Rattle.ild_run.specs.declared.status.Status.TheVariants as S

-- ---- what a call is given, and what leaves it in peace

-- the file with this name is a schema that is accepted, whose types these are
pub record HasSchema (files : List (List ℕ × List ℕ)) (name : List ℕ) (rows : List Row) : Type 0 where
  pub bytes : List ℕ
  pub held : taken_of (file_at files name) ≡ Taken.Bytes bytes
  pub compiles : Compiles bytes (table rows)

-- and it has a type with this name
pub record HasType (files : List (List ℕ × List ℕ)) (schema_name type_name : List ℕ) : Type 0 where
  pub rows : List Row
  pub schema : HasSchema files schema_name rows
  pub type : TypeNo
  pub named : number_named type_name rows ≡ Some type.0

-- no count of faults of the inputs and the sink rose
pub record IsCalm (c : Call) : Type 0 where
  pub inputs : Rose c.before.supply.faults c.after.supply.faults → ⊥
  pub sink : Rose c.before.output.faults c.after.output.faults → ⊥

-- nor one of the store
pub record IsFaultless (c : Call) : Type 0 where
  pub calm : IsCalm c
  pub store : Rose c.before.moment.faults c.after.moment.faults → ⊥

-- ---- a script

-- the words ask for a run; the inputs tell and hold what they name; the schema is accepted, has the type, and these are tests of it; and the
-- script starts from this value, which stands under the root in a store that tells what it holds, or is the empty one
pub record IsGiven (c : Call) (tests : Tests) (v : Typed) (script : List ℕ) : Type 0 where
  pub schema_name : List ℕ
  pub type_name : List ℕ
  pub start : Start
  pub script_name : List ℕ
  pub job : c.job ≡ Some (runs schema_name type_name start script_name)
  pub files : List (List ℕ × List ℕ)
  pub told : c.before.supply.files ≡ Some files
  pub typed : HasType files schema_name type_name
  pub tested : AreTests typed.rows tests
  pub script_held : taken_of (file_at files script_name) ≡ Taken.Bytes script
  pub held : List (List ℕ)
  pub store : c.before.moment.blocks ≡ Some held
  pub starts : StartsAt typed.rows typed.type start held v

-- no count of faults rose, and no block that may come collides with one that the store holds, or, where a batch may be begun, with another of them
pub record IsUndisturbed (c : Call) (rows : List Row) (n : TypeNo) (tests : Tests) (start : Start) (v : Typed) (script : List ℕ) : Type 0 where
  pub faultless : IsFaultless c
  pub apart : AreAllApart c.after.moment (MayBatch rows n tests v script) (MayCome rows n tests start v script)

-- every line of the script was answered as on the plain value, or `no 14 memory`, and all replies were written
pub record AnswersPlainly (c : Call) (rows : List Row) (n : TypeNo) (tests : Tests) (v : Typed) (script : List ℕ) (status : Status) : Type 0 where
  pub replies : List Reply
  pub last : State Typed
  pub run : PlainRun (plain_due rows n tests) (idle v) (lines_of script) replies last
  pub written : Appends c.before.output.written c.after.output.written (texts replies)
  pub status_is : status ≡ (if list_any is_no replies then S.Refused else S.Done)

-- the words ask for a check, and the inputs tell and hold a schema that is accepted, whose types these are
pub record IsGivenSchema (c : Call) (rows : List Row) : Type 0 where
  pub schema_name : List ℕ
  pub job : c.job ≡ Some (checks schema_name)
  pub files : List (List ℕ × List ℕ)
  pub told : c.before.supply.files ≡ Some files
  pub schema : HasSchema files schema_name rows

-- the words ask for a new value; the inputs tell and hold what they name; the schema has its type; and the value's input makes this value
-- of it, which these data represent
pub record IsGivenValue (c : Call) (v : Typed) (d : Data) : Type 0 where
  pub schema_name : List ℕ
  pub type_name : List ℕ
  pub value_name : List ℕ
  pub job : c.job ≡ Some (creates schema_name type_name value_name)
  pub files : List (List ℕ × List ℕ)
  pub told : c.before.supply.files ≡ Some files
  pub typed : HasType files schema_name type_name
  pub bytes : List ℕ
  pub value_held : taken_of (file_at files value_name) ≡ Taken.Bytes bytes
  pub makes : Makes hash typed.rows typed.type bytes v d

-- no count of faults rose, and no block of the value collides with one that the store holds
pub record LetsCreate (c : Call) (rows : List Row) (n : TypeNo) (v : Typed) (d : Data) : Type 0 where
  pub faultless : IsFaultless c
  pub apart : AreApart c.after.moment (Contains (typed_blocks bare hash rows n v d))

-- the value stands in the store under the root of these data, and the line of the root was written
pub record CreatesPlainly (c : Call) (rows : List Row) (n : TypeNo) (v : Typed) (d : Data) (status : Status) : Type 0 where
  pub status_is : status ≡ S.Done
  pub root : BlockId
  pub root_is : root.0 ≡ root_id bare d
  pub stands : IfTold c.after.moment.blocks (λ held. Stands bare (block_at held) hash rows n root.0 v)
  pub written : Appends c.before.output.written c.after.output.written (reply_text (R.Root root))

-- the inputs tell and hold a schema that is accepted and has the type; and this value of it stands under the root, in a store that tells what
-- it holds
pub record HasStanding (c : Call) (schema_name type_name root : List ℕ) (v : Typed) : Type 0 where
  pub files : List (List ℕ × List ℕ)
  pub told : c.before.supply.files ≡ Some files
  pub typed : HasType files schema_name type_name
  pub held : List (List ℕ)
  pub store : c.before.moment.blocks ≡ Some held
  pub stands : Stands bare (block_at held) hash typed.rows typed.type root v

-- the words ask for the value under a root, and this one stands there
pub record IsGivenRoot (c : Call) (v : Typed) : Type 0 where
  pub schema_name : List ℕ
  pub type_name : List ℕ
  pub root : List ℕ
  pub job : c.job ≡ Some (shows schema_name type_name root)
  pub there : HasStanding c schema_name type_name root v

-- the JSON of the value's shown form was written, or `no 10 reserved`, where it has none since a map whose only key is `/` stands in it
abbrev pub ShownBy : Call → Status → Option (List ℕ) → Type 0
ShownBy c status (Some json) = (status ≡ S.Done) × Appends c.before.output.written c.after.output.written (reply_text (R.Ok json))
ShownBy c status None = (status ≡ S.Refused) × Appends c.before.output.written c.after.output.written (reply_text reserved)

abbrev pub ShowsPlainly : Call → List Row → TypeNo → Typed → Status → Type 0
ShowsPlainly c rows n v status = ShownBy c status (json_text (shown rows (plainly n) v))

-- the words ask for a comparison; the inputs tell and hold two schemas that are accepted, with these tables; and both have the type
pub record IsGivenPair (c : Call) : Type 0 where
  pub schema_name : List ℕ
  pub next_name : List ℕ
  pub type_name : List ℕ
  pub job : c.job ≡ Some (compares schema_name next_name type_name)
  pub files : List (List ℕ × List ℕ)
  pub told : c.before.supply.files ≡ Some files
  pub typed : HasType files schema_name type_name
  pub next : HasType files next_name type_name

-- `ok true` was written of types that are compatible, or the line of a pair that is reached and fails a rule
abbrev pub ComparedBy : Call → List Row → List Row → TypeNo → TypeNo → Status → Option Differ → Type 0
ComparedBy c rows others m n status None = (status ≡ S.Done) × IsTold rows others m n None c.before.output c.after.output
ComparedBy c rows others m n status (Some d) = (status ≡ S.Refused) × IsTold rows others m n (Some d) c.before.output c.after.output

abbrev pub ComparesPlainly : Call → List Row → List Row → TypeNo → TypeNo → Status → Type 0
ComparesPlainly c rows others m n status = (found : Option Differ) × ComparedBy c rows others m n status found

-- the words ask what a proof says; the inputs tell and hold a schema that is accepted and has the type, and what is to be the proof
pub record IsGivenProof (c : Call) : Type 0 where
  pub schema_name : List ℕ
  pub type_name : List ℕ
  pub root : List ℕ
  pub path : List (List ℕ)
  pub proof_name : List ℕ
  pub job : c.job ≡ Some (verifies schema_name type_name root path proof_name)
  pub files : List (List ℕ × List ℕ)
  pub told : c.before.supply.files ≡ Some files
  pub typed : HasType files schema_name type_name
  pub bytes : List ℕ
  pub proof_held : taken_of (file_at files proof_name) ≡ Taken.Bytes bytes

-- the line of an answer was written
pub record TellsPlainly (c : Call) (a : Answer) (status : Status) : Type 0 where
  pub reserved : Bool
  pub writes : WritesLine a reserved c.before.output c.after.output
  pub status_is : status ≡ (if reserved then S.Refused else S.Done)

-- what the proof says was told; where it says nothing, or is none, it was refused
pub record VerifiesPlainly (c : Call) (given : IsGivenProof c) (status : Status) : Type 0 where
  pub said : (a : Answer) → ProofSays hash given.typed.rows given.typed.type given.root given.path given.bytes a → TellsPlainly c a status
  pub refused : SaysNothing hash given.typed.rows given.typed.type given.root given.path given.bytes
      → (status ≡ S.Value) × Appends c.before.output.written c.after.output.written (fault_text F.Proof)

-- the words ask for a proof of what stands at a path in the value under a root, and this value stands there
pub record IsGivenPath (c : Call) (v : Typed) : Type 0 where
  pub schema_name : List ℕ
  pub type_name : List ℕ
  pub root : List ℕ
  pub path : List (List ℕ)
  pub job : c.job ≡ Some (proves schema_name type_name root path)
  pub there : HasStanding c schema_name type_name root v

-- the JSON of blocks was written, which say what the value answers at the path
pub record ProvesPlainly (c : Call) (v : Typed) (given : IsGivenPath c v) (status : Status) : Type 0 where
  pub status_is : status ≡ S.Done
  pub json : List ℕ
  pub proof : HasProof hash given.there.typed.rows given.there.typed.type given.root given.path c.before.moment json
  pub proves : ProvesOf hash given.there.typed.rows given.there.typed.type given.root v given.path proof.blocks
  pub written : Appends c.before.output.written c.after.output.written (reply_text (R.Ok json))

-- the words ask for a script over named heads; the inputs tell and hold what they name, and the schema is accepted and has the type
pub record IsGivenHeads (c : Call) (script : List ℕ) : Type 0 where
  pub schema_name : List ℕ
  pub type_name : List ℕ
  pub script_name : List ℕ
  pub job : c.job ≡ Some (keeps schema_name type_name script_name)
  pub files : List (List ℕ × List ℕ)
  pub told : c.before.supply.files ≡ Some files
  pub typed : HasType files schema_name type_name
  pub script_held : taken_of (file_at files script_name) ≡ Taken.Bytes script

-- every line of the script was answered, and all was written
pub record KeepsPlainly (c : Call) (rows : List Row) (n : TypeNo) (script : List ℕ) (status : Status) : Type 0 where
  pub refused : Bool
  pub all : HeadsDone (rules_of rows n) c.before.moment (lines_of script) c.after.moment c.before.output.written c.after.output.written refused
  pub status_is : status ≡ (if refused then S.Refused else S.Done)

-- ---- a root that names its schema

-- the words ask that a value under a bare root be given one, and this one stands there
pub record IsGivenBare (c : Call) (v : Typed) : Type 0 where
  pub schema_name : List ℕ
  pub type_name : List ℕ
  pub root : List ℕ
  pub job : c.job ≡ Some (migrates schema_name type_name root)
  pub there : HasStanding c schema_name type_name root v

-- no count of faults rose, and neither of the two blocks that may come collides with one that the store holds
pub record LetsMove (c : Call) (name source : List ℕ) (d : Data) : Type 0 where
  pub faultless : IsFaultless c
  pub apart : AreApart c.after.moment (λ block. IsIn block (new_blocks name source d))

-- the value was refused, and the line of that was written
abbrev pub RefusesPlainly : Call → Refusal → Status → Type 0
RefusesPlainly c r status = (status ≡ S.Value) × Appends c.before.output.written c.after.output.written (fault_text (F.Value r))

-- it stands in the store beneath the new root, whose block is the one over its data, and the line of the root was written
pub record NamesPlainly (c : Call) (rows : List Row) (n : TypeNo) (name source : List ℕ) (v : Typed) (d : Data) (status : Status) : Type 0 where
  pub status_is : status ≡ S.Done
  pub root : BlockId
  pub root_is : root.0 ≡ root_id (named name source) d
  pub stands : (held : List (List ℕ)) → c.after.moment.blocks ≡ Some held → Stands (named name source) (block_at held) hash rows n root.0 v
  pub written : Appends c.before.output.written c.after.output.written (reply_text (R.Root root))

-- it is refused where it nests more than 95 levels; else where one of the two blocks is longer than a block may be; else it has the new root
pub record MovesPlainly (c : Call) (rows : List Row) (n : TypeNo) (name source : List ℕ) (v : Typed) (d : Data) (status : Status) : Type 0 where
  pub deep : (HasRoom rows n v → ⊥) → RefusesPlainly c N.Depth status
  pub long : HasRoom rows n v → IsTooLong name source d → RefusesPlainly c N.Size status
  pub moves : IsMovable rows n name source v d → NamesPlainly c rows n name source v d status

-- a script is answered plainly, the names of an accepted schema are listed, a value that a store can hold is created, one that stands
-- under a root is shown, the types of two accepted schemas are compared, it is told what a proof says, a script over named heads is answered,
-- what stands at a path in a value that stands under a root is proved, and such a value is given a root that names its schema
pub record IsComplete (c : Call) (status : Status) : Type 0 where
  pub runs : (tests : Tests) (v : Typed) (script : List ℕ) (given : IsGiven c tests v script)
      → IsUndisturbed c given.typed.rows given.typed.type tests given.start v script → (status ≡ S.Memory) ⊎ AnswersPlainly c given.typed.rows given.typed.type tests v script status
  pub checks : (rows : List Row) → IsGivenSchema c rows → IsCalm c → (status ≡ S.Memory) ⊎ ((status ≡ S.Done) × Lists (declared_names rows) c.before.output c.after.output)
  pub creates : (v : Typed) (d : Data) (given : IsGivenValue c v d) → LetsCreate c given.typed.rows given.typed.type v d → (status ≡ S.Memory) ⊎ CreatesPlainly c given.typed.rows given.typed.type v d status
  pub shows : (v : Typed) (given : IsGivenRoot c v) → IsFaultless c → (status ≡ S.Memory) ⊎ ShowsPlainly c given.there.typed.rows given.there.typed.type v status
  pub compares : (given : IsGivenPair c) → IsCalm c → (status ≡ S.Memory) ⊎ ComparesPlainly c given.typed.rows given.next.rows given.typed.type given.next.type status
  pub verifies : (given : IsGivenProof c) → IsCalm c → (status ≡ S.Memory) ⊎ VerifiesPlainly c given status
  pub keeps : (script : List ℕ) (given : IsGivenHeads c script) → IsCalm c → (status ≡ S.Memory) ⊎ KeepsPlainly c given.typed.rows given.typed.type script status
  pub proves : (v : Typed) (given : IsGivenPath c v) → IsFaultless c → (status ≡ S.Memory) ⊎ ProvesPlainly c v given status
  pub migrates : (v : Typed) (given : IsGivenBare c v) → LetsMove c given.type_name given.there.typed.schema.bytes given.there.stands.tree
      → (status ≡ S.Memory) ⊎ MovesPlainly c given.there.typed.rows given.there.typed.type given.type_name given.there.typed.schema.bytes v given.there.stands.tree status

-- The premise on collisions can be met: where all that a store holds, and all that may come, are among blocks of which no two have one id.
abbrev pub CanBeApart : Type 0
CanBeApart = (rows : List Row) (ty : TypeNo) (tests : Tests) (start : Start) (v : Typed) (script : List ℕ) (own : List (List ℕ)) (n : Moment) (held : List (List ℕ)) → n.blocks ≡ Some held
    → ((id b : List ℕ) → block_at held id ≡ Some b → Contains own b) → ((b : List ℕ) → MayCome rows ty tests start v script b → Contains own b)
    → ((a b : List ℕ) → Contains own a → Contains own b → id_of a ≡ id_of b → a ≡ b)
    → AreAllApart n (MayBatch rows ty tests v script) (MayCome rows ty tests start v script)
