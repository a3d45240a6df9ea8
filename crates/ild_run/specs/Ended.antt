-- How a call ends: the status, what is written, and the cause.
use Rattle.std.specs.Prelude.{◌≡◌, ◌⊎◌, ℕ, List, Bool, true, false, Option, Some, None, Result, Ok, Err}
use Rattle.ild_edges.specs.Count.{Rose}
use Rattle.ild_edges.specs.Inputs.{Supply}
use Rattle.ild_edges.specs.Sink.{Output, Appends, AppendsFront}
use Rattle.ild_edges.specs.Store.{Moment}
use Rattle.ild_run_create.specs.Creates.{Tries as TriesToCreate, Created, Clashes}
use Rattle.ild_run_create.specs.Refuses.{IsFirst}
use Rattle.ild_run_create.specs.declared.fault.Refusal.{Refusal}
use Rattle.ild_schema.specs.Table.{IsTable}
use Rattle.ild_schema.specs.declared.number.TypeNo.{TypeNo}
use Rattle.ild_schema.specs.declared.row.Row.{Row}
use Rattle.ild_script.specs.declared.reply.Reply.{Reply}
use Rattle.ild_script.specs.declared.reply.Reply.TheVariants as R
use Rattle.ild_script.specs.Reply.{reply_text}
use Rattle.ild_compile.specs.declared.error.SchemaFault.{SchemaFault}
use Rattle.ild_run.specs.Words.{Job}
use Rattle.ild_data.specs.declared.id.BlockId.{BlockId}
use Rattle.ild_run_create.specs.declared.fault.Refusal.TheVariants as N
use Rattle.ild_run_open.specs.Starts.{Asks, Stops}
use Rattle.ild_run_open.specs.declared.start.Start.{Start}
use Rattle.ild_run_open.specs.declared.start.StartFault.{StartFault}
use Rattle.ild_run_open.specs.declared.start.StartFault.TheVariants as P
use Rattle.ild_run_script.specs.Scripts.{AnswersAll as ScriptAll, AnswersSome as ScriptSome}
use Rattle.ild_cbor.specs.declared.why.BlockWhy.{BlockWhy}
use Rattle.ild_open_parts.specs.Reads.{OnlyReads}
use Rattle.ild_run_show.specs.Shows.{GetsItsBlocks, HasShown, NotOpened}
use Rattle.ild_run.specs.Shown.{hash, reserved}
use Rattle.ild_compat.specs.declared.rule.Differ.{Differ}
use Rattle.ild_run_compare.specs.Compared.{IsTold, IsCutOff}
use Rattle.ild_run_heads.specs.Heads.{HeadsDone, HeadsCut}
use Rattle.ild_run_named.specs.Migrates.{Migrates}
use Rattle.ild_run_named.specs.declared.migrating.MigrateFault.{MigrateFault}
use Rattle.ild_run_named.specs.declared.migrating.MigrateFault.TheVariants as X
use Rattle.ild_run_work.specs.Rules.{rules_of}
use Rattle.ild_script.specs.Line.{lines_of}
use Rattle.ild_run_prove.specs.Proved.{NotProved, ProvesPath}
use Rattle.ild_run_verify.specs.Verified.{SaysNothing, IsTold as IsSaid, IsCutOff as IsSaidFront}
use Rattle.ild_run.specs.Work.{Taking, ends, lists, matches, answers, makes, opens, weighs, serves, seeks, moves, work_of, AreTaken, Reaches}
use Rattle.ild_run.specs.Fault.{fault_text}
use Rattle.ild_run.specs.Listed.{Lists, ListsFront}
use Rattle.ild_run.specs.declared.fault.Fault.{Fault}
use Rattle.ild_run.specs.declared.fault.Fault.TheVariants as F
use Rattle.ild_run.specs.declared.fault.Role.{Role}
use Rattle.ild_run.specs.declared.fault.Trouble.{Trouble}
use Rattle.ild_run.specs.declared.fault.Trouble.TheVariants as T
use Rattle.ild_run.specs.declared.status.Status.{Status}
use Rattle.ild_run.specs.declared.status.Status.TheVariants as S

-- The outside at a moment of a call.
pub record World : Type 0 where
  pub supply : Supply
  pub moment : Moment
  pub output : Output

-- a call from the world before to the world after
pub record Call : Type 0 where
  pub job : Option Job
  pub before : World
  pub after : World

-- a call with this job, over the outside before it and after it
abbrev pub call_of : Option Job → Supply → Moment → Output → Supply → Moment → Output → Call
call_of job supply moment output supply' moment' output' =
    record { job = job; before = record { supply = supply; moment = moment; output = output }; after = record { supply = supply'; moment = moment'; output = output' } }

-- ---- what the work of a call is

-- a script, on a document that starts so
pub record RunsScript (c : Call) (t : Taking) : Type 0 where
  pub rows : List Row
  pub type : TypeNo
  pub start : Start
  pub bytes : List ℕ
  pub work : work_of c.job t ≡ answers rows type start bytes

-- an input that is to make a value of a type
pub record MakesValue (c : Call) (t : Taking) : Type 0 where
  pub rows : List Row
  pub type : TypeNo
  pub bytes : List ℕ
  pub work : work_of c.job t ≡ makes rows type bytes

-- a root that is to be opened
pub record OpensRoot (c : Call) (t : Taking) : Type 0 where
  pub rows : List Row
  pub type : TypeNo
  pub root : List ℕ
  pub work : work_of c.job t ≡ opens rows type root

-- two types that are compared, with the store left as it was
pub record ComparesTypes (c : Call) (t : Taking) : Type 0 where
  pub rows : List Row
  pub others : List Row
  pub type : TypeNo
  pub later : TypeNo
  pub work : work_of c.job t ≡ matches rows others type later
  pub same : c.after.moment ≡ c.before.moment

-- a proof that is weighed, with the store left as it was
pub record WeighsProof (c : Call) (t : Taking) : Type 0 where
  pub rows : List Row
  pub type : TypeNo
  pub root : List ℕ
  pub path : List (List ℕ)
  pub bytes : List ℕ
  pub work : work_of c.job t ≡ weighs rows type root path bytes
  pub same : c.after.moment ≡ c.before.moment

-- a script over named heads, under which values of a type stand
pub record ServesHeads (c : Call) (t : Taking) : Type 0 where
  pub rows : List Row
  pub type : TypeNo
  pub bytes : List ℕ
  pub work : work_of c.job t ≡ serves rows type bytes

-- a path in the value under a root, at which it is to be proved what stands there
pub record SeeksPath (c : Call) (t : Taking) : Type 0 where
  pub rows : List Row
  pub type : TypeNo
  pub root : List ℕ
  pub path : List (List ℕ)
  pub work : work_of c.job t ≡ seeks rows type root path

-- a value that is to be given a root that names its type and its schema so
pub record MovesRoot (c : Call) (t : Taking) : Type 0 where
  pub rows : List Row
  pub type : TypeNo
  pub root : List ℕ
  pub name : List ℕ
  pub source : List ℕ
  pub work : work_of c.job t ≡ moves rows type root name source

-- ---- what became of it

-- a script was to be run, and nothing was asked of the store but what opening its document asks
pub record AsksScript (c : Call) (t : Taking) : Type 0 where
  pub script : RunsScript c t
  pub asks : Asks hash script.rows script.type script.start c.before.moment c.after.moment

-- a script couldn't start, with this cause
pub record StopsScript (c : Call) (t : Taking) (f : StartFault) : Type 0 where
  pub script : RunsScript c t
  pub table : IsTable script.rows
  pub stops : Stops hash script.rows script.type script.start c.before.moment f c.after.moment

-- the input makes a value of the type, and nothing was asked of the store but to keep blocks of it
pub record TriesValue (c : Call) (t : Taking) : Type 0 where
  pub value : MakesValue c t
  pub tried : TriesToCreate hash value.rows value.type value.bytes c.before.moment c.after.moment

-- a block of the value, with this id, collides with one that is held
pub record ClashesValue (c : Call) (t : Taking) (id : List ℕ) : Type 0 where
  pub value : MakesValue c t
  pub table : IsTable value.rows
  pub clash : Clashes hash value.rows value.type value.bytes c.before.moment c.after.moment id

-- the input makes no value of the type that a store can hold, and this is the first cause
pub record RefusesValue (c : Call) (t : Taking) (r : Refusal) : Type 0 where
  pub value : MakesValue c t
  pub table : IsTable value.rows
  pub refused : IsFirst hash value.rows value.type value.bytes r

-- a root was to be opened, and nothing was asked of the store but to get blocks
pub record ReadsRoot (c : Call) (t : Taking) : Type 0 where
  pub opened : OpensRoot c t
  pub reads : OnlyReads c.before.moment c.after.moment

-- no value of the type stands under the root: this block isn't held, or isn't what has to stand there
pub record LacksRoot (c : Call) (t : Taking) (id : List ℕ) (why : BlockWhy) : Type 0 where
  pub opened : OpensRoot c t
  pub table : IsTable opened.rows
  pub refused : NotOpened hash opened.rows opened.type opened.root c.before.moment id why c.after.moment

-- what stands at a path was to be proved, and nothing was asked of the store but to get blocks
pub record ReadsPath (c : Call) (t : Taking) : Type 0 where
  pub sought : SeeksPath c t
  pub reads : OnlyReads c.before.moment c.after.moment

-- no value of the type stands under the root of the path: this block isn't held, or isn't what has to stand there
pub record LacksPath (c : Call) (t : Taking) (id : List ℕ) (why : BlockWhy) : Type 0 where
  pub sought : SeeksPath c t
  pub table : IsTable sought.rows
  pub refused : NotProved hash sought.rows sought.type sought.root sought.path c.before.moment id why c.after.moment

-- A value was to be given a root that names its schema, and this came of it: the new root, beneath which it stands; or the cause why there
-- is none. Nothing was asked of the store but what this asks.
pub record MovesTo (c : Call) (t : Taking) (result : Result BlockId MigrateFault) : Type 0 where
  pub moved : MovesRoot c t
  pub table : IsTable moved.rows
  pub migrates : Migrates hash moved.rows moved.type moved.root moved.name moved.source c.before.moment result c.after.moment

-- whatever came of it
pub record AsksMove (c : Call) (t : Taking) : Type 0 where
  pub result : Result BlockId MigrateFault
  pub to : MovesTo c t result

-- it nests too many levels for such a root; or else the root's block or the schema's would be too long
abbrev pub RefusesMove : Call → Taking → Refusal → Type 0
RefusesMove c t N.Depth = MovesTo c t (Err X.Depth)
RefusesMove c t N.Size = MovesTo c t (Err X.Size)
RefusesMove c t r = ⊥

-- The call came to a script's document, to a new value, to a root, to a path or to a value that is given another root, and nothing was asked
-- of the store but what opening the document asks, to keep blocks of the new value, to get blocks, or what giving the other root asks.
abbrev pub AsksStore : Call → Taking → Type 0
AsksStore c t = AsksScript c t ⊎ (TriesValue c t ⊎ (ReadsRoot c t ⊎ (ReadsPath c t ⊎ AsksMove c t)))

-- what was to be a proof isn't one, or something is wrong with a block of it
pub record RefusesProof (c : Call) (t : Taking) : Type 0 where
  pub proof : WeighsProof c t
  pub table : IsTable proof.rows
  pub nothing : SaysNothing hash proof.rows proof.type proof.root proof.path proof.bytes

-- the cause of a fault
abbrev pub IsDue : Call → Taking → Fault → Type 0
IsDue c t (F.Input role T.Failed) = Rose c.before.supply.faults c.after.supply.faults × Reaches role c.job t
IsDue c t (F.Input role trouble) = (work_of c.job t ≡ ends (F.Input role trouble)) × Rose c.before.supply.lacks c.after.supply.lacks
IsDue c t F.Store = Rose c.before.moment.faults c.after.moment.faults × AsksStore c t
IsDue c t (F.Clash id) = StopsScript c t (P.Clash id) ⊎ (ClashesValue c t id.0 ⊎ MovesTo c t (Err (X.Clash id)))
IsDue c t (F.Value r) = ((r ≡ N.Mismatch) × StopsScript c t P.Mismatch) ⊎ (RefusesValue c t r ⊎ RefusesMove c t r)
IsDue c t F.Proof = RefusesProof c t
IsDue c t (F.Root id why) = StopsScript c t (P.Block id why) ⊎ (LacksRoot c t id.0 why ⊎ (LacksPath c t id.0 why ⊎ MovesTo c t (Err (X.Block id why))))
IsDue c t F.Memory = Unit {0}
IsDue c t f = work_of c.job t ≡ ends f

-- what a fault leaves of the store: it is as it was, unless the call came to where something is asked of it
abbrev pub Leaves : Call → Taking → Fault → Type 0
Leaves c t F.Store = AsksStore c t
Leaves c t (F.Clash id) = AsksScript c t ⊎ (TriesValue c t ⊎ MovesTo c t (Err (X.Clash id)))
Leaves c t (F.Root id why) = AsksScript c t ⊎ (ReadsRoot c t ⊎ (ReadsPath c t ⊎ MovesTo c t (Err (X.Block id why))))
Leaves c t F.Memory = (c.after.moment ≡ c.before.moment) ⊎ AsksStore c t
Leaves c t (F.Value r) = (c.after.moment ≡ c.before.moment) ⊎ RefusesMove c t r
Leaves c t f = c.after.moment ≡ c.before.moment

-- every line of the script was answered, and all replies were written
pub record AnswersAll (c : Call) (t : Taking) (refused : Bool) : Type 0 where
  pub script : RunsScript c t
  pub table : IsTable script.rows
  pub all : ScriptAll script.rows script.type script.start script.bytes c.before.moment c.before.output refused c.after.moment c.after.output

-- the first lines of the script were answered, and a front of their replies was written
pub record AnswersSome (c : Call) (t : Taking) : Type 0 where
  pub script : RunsScript c t
  pub table : IsTable script.rows
  pub some : ScriptSome script.rows script.type script.start script.bytes c.before.moment c.before.output c.after.moment c.after.output

-- a fault was due, and its line was written
pub record Tells (c : Call) (t : Taking) (f : Fault) : Type 0 where
  pub due : IsDue c t f
  pub leaves : Leaves c t f
  pub written : Appends c.before.output.written c.after.output.written (fault_text f)

-- a fault was due, and a front of its line was written
pub record TellsFront (c : Call) (t : Taking) : Type 0 where
  pub f : Fault
  pub due : IsDue c t f
  pub leaves : Leaves c t f
  pub written : AppendsFront c.before.output.written c.after.output.written (fault_text f)

-- the names that the schema declares were listed, and the store left
pub record ListsNames (c : Call) (t : Taking) : Type 0 where
  pub names : List (List ℕ)
  pub work : work_of c.job t ≡ lists names
  pub same : c.after.moment ≡ c.before.moment
  pub written : Lists names c.before.output c.after.output

-- a front of the line that lists them was written
pub record ListsSome (c : Call) (t : Taking) : Type 0 where
  pub names : List (List ℕ)
  pub work : work_of c.job t ≡ lists names
  pub same : c.after.moment ≡ c.before.moment
  pub written : ListsFront names c.before.output c.after.output

-- the value that the input makes stands in the store under this root, and the line of the root was written
pub record CreatesValue (c : Call) (t : Taking) : Type 0 where
  pub value : MakesValue c t
  pub table : IsTable value.rows
  pub root : BlockId
  pub created : Created hash value.rows value.type value.bytes c.before.moment c.after.moment root.0
  pub written : Appends c.before.output.written c.after.output.written (reply_text (R.Root root))

-- a front of that line was written
pub record CreatesSome (c : Call) (t : Taking) : Type 0 where
  pub value : MakesValue c t
  pub root : BlockId
  pub created : Created hash value.rows value.type value.bytes c.before.moment c.after.moment root.0
  pub written : AppendsFront c.before.output.written c.after.output.written (reply_text (R.Root root))

-- A value of the type stands under the root, its shown form has this JSON, or none, and nothing was asked of the store but to get blocks,
-- no more of them than the value has that stands there in a store that tells what it holds.
pub record HasRoot (c : Call) (t : Taking) (json : Option (List ℕ)) : Type 0 where
  pub opened : OpensRoot c t
  pub table : IsTable opened.rows
  pub shown : HasShown hash opened.rows opened.type opened.root c.after.moment json
  pub reads : OnlyReads c.before.moment c.after.moment
  pub gets : GetsItsBlocks hash opened.rows opened.type opened.root c.before.moment c.after.moment

-- the reply that is due on a JSON, or on none
abbrev pub reply_on : Option (List ℕ) → Reply
reply_on (Some json) = R.Ok json
reply_on None = reserved

-- it was shown: `ok JSON`, or `no 10 reserved` where there is none
pub record ShowsRoot (c : Call) (t : Taking) (json : Option (List ℕ)) : Type 0 where
  pub has : HasRoot c t json
  pub written : Appends c.before.output.written c.after.output.written (reply_text (reply_on json))

-- a front of that line was written
pub record ShowsSome (c : Call) (t : Taking) : Type 0 where
  pub json : Option (List ℕ)
  pub has : HasRoot c t json
  pub written : AppendsFront c.before.output.written c.after.output.written (reply_text (reply_on json))

-- the types with the name, of the schema and of the later one, were compared, the answer was told, and the store left
pub record MatchesTypes (c : Call) (t : Taking) (found : Option Differ) : Type 0 where
  pub types : ComparesTypes c t
  pub told : IsTold types.rows types.others types.type types.later found c.before.output c.after.output

-- a front of the answer's line was written
pub record MatchesSome (c : Call) (t : Taking) : Type 0 where
  pub types : ComparesTypes c t
  pub told : IsCutOff types.rows types.others types.type types.later c.before.output c.after.output

-- what the proof says of the path was told, and the store left
pub record VerifiesPath (c : Call) (t : Taking) (reserved : Bool) : Type 0 where
  pub proof : WeighsProof c t
  pub table : IsTable proof.rows
  pub told : IsSaid hash proof.rows proof.type proof.root proof.path proof.bytes reserved c.before.output c.after.output

-- a front of that line was written
pub record VerifiesSome (c : Call) (t : Taking) : Type 0 where
  pub proof : WeighsProof c t
  pub told : IsSaidFront hash proof.rows proof.type proof.root proof.path proof.bytes c.before.output c.after.output

-- every line of the script over heads was answered, and the replies were written, and behind them a line for each head
pub record HeadsAll (c : Call) (t : Taking) (refused : Bool) : Type 0 where
  pub script : ServesHeads c t
  pub table : IsTable script.rows
  pub all : HeadsDone (rules_of script.rows script.type) c.before.moment (lines_of script.bytes) c.after.moment c.before.output.written c.after.output.written refused

-- the first lines of the script were answered, and a front of that text was written
pub record HeadsSome (c : Call) (t : Taking) : Type 0 where
  pub script : ServesHeads c t
  pub table : IsTable script.rows
  pub some : HeadsCut (rules_of script.rows script.type) c.before.moment (lines_of script.bytes) c.after.moment c.before.output.written c.after.output.written

-- What stands at the path was proved by the blocks that have this JSON, and nothing was asked of the store but to get blocks, no more of them
-- than the value has that stands there in a store that tells what it holds, and beside them the nodes on the path's way.
pub record MakesProof (c : Call) (t : Taking) (json : List ℕ) : Type 0 where
  pub sought : SeeksPath c t
  pub table : IsTable sought.rows
  pub proved : ProvesPath hash sought.rows sought.type sought.root sought.path c.before.moment (Ok json) c.after.moment

-- the proof was written: `ok JSON`
pub record WritesProof (c : Call) (t : Taking) : Type 0 where
  pub json : List ℕ
  pub made : MakesProof c t json
  pub written : Appends c.before.output.written c.after.output.written (reply_text (R.Ok json))

-- a front of that line was written
pub record WritesSome (c : Call) (t : Taking) : Type 0 where
  pub json : List ℕ
  pub made : MakesProof c t json
  pub written : AppendsFront c.before.output.written c.after.output.written (reply_text (R.Ok json))

-- the value under a bare root has one that names its schema, and the line of that root was written
pub record NamesRoot (c : Call) (t : Taking) : Type 0 where
  pub root : BlockId
  pub has : MovesTo c t (Ok root)
  pub written : Appends c.before.output.written c.after.output.written (reply_text (R.Root root))

-- a front of that line was written
pub record NamesSome (c : Call) (t : Taking) : Type 0 where
  pub root : BlockId
  pub has : MovesTo c t (Ok root)
  pub written : AppendsFront c.before.output.written c.after.output.written (reply_text (R.Root root))

-- the text that was due was cut off
abbrev pub IsCut : Call → Taking → Type 0
IsCut c t =
    TellsFront c t ⊎ (AnswersSome c t ⊎ (ListsSome c t ⊎ (CreatesSome c t ⊎ (ShowsSome c t ⊎ (MatchesSome c t ⊎ (VerifiesSome c t ⊎ (HeadsSome c t ⊎ (WritesSome c t ⊎ NamesSome c t))))))))

-- what a status says
abbrev pub Says : Call → Taking → Status → Type 0
Says c t S.Done =
    AnswersAll c t false ⊎ (ListsNames c t ⊎ (CreatesValue c t ⊎ (((json : List ℕ) × ShowsRoot c t (Some json))
    ⊎ (MatchesTypes c t None ⊎ (VerifiesPath c t false ⊎ (HeadsAll c t false ⊎ (WritesProof c t ⊎ NamesRoot c t)))))))
Says c t S.Refused = AnswersAll c t true ⊎ (ShowsRoot c t None ⊎ (((d : Differ) × MatchesTypes c t (Some d)) ⊎ (VerifiesPath c t true ⊎ HeadsAll c t true)))
Says c t S.Words = Tells c t F.Words
Says c t S.Schema = (f : SchemaFault) × Tells c t (F.Schema f)
Says c t S.Root = (id : BlockId) × (why : BlockWhy) × Tells c t (F.Root id why)
Says c t S.Input = (role : Role) × (trouble : Trouble) × Tells c t (F.Input role trouble)
Says c t S.StoreFault = Tells c t F.Store ⊎ ((id : BlockId) × Tells c t (F.Clash id))
Says c t S.SinkFault = Rose c.before.output.faults c.after.output.faults × IsCut c t
Says c t S.Memory = Tells c t F.Memory ⊎ IsCut c t
Says c t S.Value = ((r : Refusal) × Tells c t (F.Value r)) ⊎ Tells c t F.Proof

-- a call ended with this status: what is taken of its inputs and what the schema is compiled to, and what the status says of them
pub record Ended (c : Call) (status : Status) : Type 0 where
  pub taking : Taking
  pub taken : AreTaken c.job c.before.supply taking
  pub says : Says c taking status
