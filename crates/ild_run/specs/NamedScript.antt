-- How a call ends that answers a script on the value under a root which names its schema: the words tell the root and the script alone.
use Rattle.std.specs.Prelude.{◌≡◌, ◌⊎◌, ◌≤◌, ℕ, List, [], ◌∷◌, map, Bool, true, false, Contains, Option, Some, None, option_map, if◌then◌else◌, codes, Result, Ok, Err, String, string_bytes}
use Rattle.std.specs.Borrow.{Bor}
use Rattle.std.specs.List.{list_any}
use Rattle.std.specs.declared.alloc.Global.{Global}
use Rattle.ild_data.specs.Key.{same_text}
use Rattle.ild_data.specs.Spell.{id_of}
use Rattle.ild_data_root.specs.Root.{root_of_text}
use Rattle.ild_data.specs.declared.id.BlockId.{BlockId}
use Rattle.ild_edges.specs.Inputs.{Supply, taken_of, file_at}
use Rattle.ild_edges.specs.declared.inputs.Taken.TheVariants as Taken
use Rattle.ild_edges.specs.Sink.{Output, Appends}
use Rattle.ild_edges.specs.Store.{Moment, block_at}
use Rattle.ild_named_replies.specs.Replies.{under_name}
use Rattle.ild_open_parts.specs.declared.fault.OpenFault.{OpenFault}
use Rattle.ild_open_parts.specs.declared.fault.OpenFault.TheVariants as O
use Rattle.ild_path_edits.specs.Judged.{Tests, AreTests}
use Rattle.ild_run_named.specs.Describes.{StandsDescribed}
use Rattle.ild_run_named_script.specs.NamedScripts.{NamedScripts}
use Rattle.ild_run_named_script.specs.declared.fault.NamedScriptFault.{NamedScriptFault}
use Rattle.ild_run_named_script.specs.declared.fault.NamedScriptFault.TheVariants as B
use Rattle.ild_run_named_table.specs.NamedTable.{NamesTable}
use Rattle.ild_run_script.specs.declared.fault.ScriptFault.TheVariants as X
use Rattle.ild_schema.specs.Value.{Value as Typed}
use Rattle.ild_schema.specs.declared.number.TypeNo.{TypeNo}
use Rattle.ild_schema.specs.declared.row.Row.{Row}
use Rattle.ild_script.specs.Line.{lines_of}
use Rattle.ild_script.specs.Reply.{is_no}
use Rattle.ild_script.specs.declared.reply.Reply.{Reply}
use Rattle.ild_script_meaning.specs.Lines.{line_due}
use Rattle.ild_script_session.specs.Plain.{AreAllApart, MayBegin, MayPut, PlainRun}
use Rattle.ild_script_session.specs.Run.{texts}
use Rattle.ild_script_session.specs.Session.{Due, State, idle}
use Rattle.ild_typed.specs.Schema.{IsSchema}
use Rattle.ild_run.specs.Complete.{IsFaultless}
use Rattle.ild_run.specs.Cut.{ToldAs}
use Rattle.ild_run.specs.Ended.{Call}
use Rattle.ild_run.specs.Fault.{cut_status, start_fault}
use Rattle.ild_run.specs.Opening.{TakesInput}
use Rattle.ild_run.specs.Shown.{hash}
use Rattle.ild_run.specs.declared.fault.Fault.{Fault}
use Rattle.ild_run.specs.declared.fault.Fault.TheVariants as F
use Rattle.ild_run.specs.declared.fault.Role.TheVariants as R
use Rattle.ild_run.specs.declared.status.Status.{Status}
use Rattle.ild_run.specs.declared.status.Status.TheVariants as S

-- `run ROOT SCRIPT`, where ROOT is the text of a block id: the id, and the name of the script's input
abbrev pub script_in : List (List ℕ) → Option (List ℕ × List ℕ)
script_in (verb ∷ root ∷ script ∷ []) = if same_text verb (codes "run") then option_map (λ id. (id, script)) (root_of_text root) else None
script_in words = None

abbrev pub script_run : List (String Global) → Option (List ℕ × List ℕ)
script_run words = script_in (map string_bytes words)

-- memory may be wanting to read the id
abbrev pub AsksScript : Option (List ℕ × List ℕ) → Result (Option (BlockId × Bor (List ℕ))) Fault → Type 0
AsksScript asked (Ok found) = option_map (λ (x : BlockId × Bor (List ℕ)). (x.0.0, x.1.now)) found ≡ asked
AsksScript asked (Err f) = f ≡ F.Memory

-- ---- the lines

-- what is told behind the lines: of a script that couldn't start its fault, and else no more
abbrev pub BeneathTold : Result Bool NamedScriptFault → Output → Status → Output → Type 0
BeneathTold (Ok false) behind status now = (status ≡ S.Done) × (now ≡ behind)
BeneathTold (Ok true) behind status now = (status ≡ S.Refused) × (now ≡ behind)
BeneathTold (Err B.Memory) behind status now = ToldAs F.Memory behind status now
BeneathTold (Err (B.Script (X.Start f))) behind status now = ToldAs (start_fault f) behind status now
BeneathTold (Err (B.Script (X.Cut cut))) behind status now = (status ≡ cut_status cut) × (now ≡ behind)

-- the script was answered on the root, as a bare one of this type, each path of which goes through `value` first
pub record BeneathAs (rows : List Row) (n : TypeNo) (id : BlockId) (b : List ℕ) (m : Moment) (was : Output) (status : Status) (k : Moment) (now : Output) : Type 0 where
  pub schema : IsSchema rows
  pub result : Result Bool NamedScriptFault
  pub behind : Output
  pub scripts : NamedScripts rows n id b m was result k behind
  pub told : BeneathTold result behind status now
  pub faults : was.faults ≤ now.faults

-- ---- the call

-- a table that isn't made, as the fault that is told
abbrev pub table_fault : OpenFault → Fault
table_fault (O.Block id why) = F.Root id why
table_fault O.Store = F.Store
table_fault O.Memory = F.Memory

-- once the script's input is taken
abbrev pub InputTold : List Row → TypeNo → BlockId → Result (List ℕ) Fault → Moment → Output → Status → Moment → Output → Type 0
InputTold rows n id (Ok b) m was status k now = BeneathAs rows n id b m was status k now
InputTold rows n id (Err f) m was status k now = ToldAs f was status now × (k ≡ m)

-- the script's input was taken under this name, and what then came of it
pub record TakesScript (rows : List Row) (n : TypeNo) (id : BlockId) (name : List ℕ) (supply : Supply) (m : Moment) (was : Output) (status : Status) (supply' : Supply) (k : Moment) (now : Output) : Type 0 where
  pub input : Result (List ℕ) Fault
  pub takes : TakesInput supply R.Script name input supply'
  pub told : InputTold rows n id input m was status k now

-- once the table is made of what the root tells
abbrev pub TableTold : BlockId → List ℕ → Result (List Row × TypeNo) OpenFault → Supply → Moment → Output → Status → Supply → Moment → Output → Type 0
TableTold id name (Ok x) supply m was status supply' k now = TakesScript x.0 x.1 id name supply m was status supply' k now
TableTold id name (Err f) supply m was status supply' k now = ToldAs (table_fault f) was status now × (k ≡ m) × (supply' ≡ supply)

-- The table is made of what the root tells, in two gets at most; then the script's input is taken; then the value is opened, and the lines are
-- answered. The first of these that can't be is told.
pub record RunsRoot (id : BlockId) (name : List ℕ) (supply : Supply) (m : Moment) (was : Output) (status : Status) (supply' : Supply) (k : Moment) (now : Output) : Type 0 where
  pub table : Result (List Row × TypeNo) OpenFault
  pub behind : Moment
  pub names : NamesTable id.0 m table behind
  pub told : TableTold id name table supply behind was status supply' k now

abbrev pub EndsScript : List ℕ × List ℕ → Call → Status → Type 0
EndsScript s c status = RunsRoot (record { 0 = s.0 }) s.1 c.before.supply c.before.moment c.before.output status c.after.supply c.after.moment c.after.output

-- ---- where nothing stands in the way

-- the inputs tell and hold the script; the store tells what it holds; and a value stands in it under the root, of a type that the root
-- describes. These are tests of the schema's table.
pub record IsGivenBeneath (s : List ℕ × List ℕ) (c : Call) (rows : List Row) (n : TypeNo) (tests : Tests) (v : Typed) (script : List ℕ) : Type 0 where
  pub held : List (List ℕ)
  pub store : c.before.moment.blocks ≡ Some held
  pub stands : StandsDescribed hash s.0 held rows n v
  pub tested : AreTests rows tests
  pub files : List (List ℕ × List ℕ)
  pub told : c.before.supply.files ≡ Some files
  pub script_held : taken_of (file_at files s.1) ≡ Taken.Bytes script

-- What a line is due on the plain value under a root that describes its type so. A root that it tells is the id of the block made from scratch
-- of the value, which names the type and links to the schema's text too.
abbrev pub due_beneath : List Row → TypeNo → Tests → List ℕ → List ℕ → State Typed → List ℕ → Due Typed
due_beneath rows n tests name source = line_due (under_name hash rows tests n name source)

-- no count of faults rose, and no block that lines so due may put collides with one that the store holds, or, where a batch may be begun, with
-- another of them
pub record LetsAnswer (c : Call) (due : State Typed → List ℕ → Due Typed) (v : Typed) (script : List ℕ) : Type 0 where
  pub faultless : IsFaultless c
  pub apart : AreAllApart c.after.moment (MayBegin due (idle v) (lines_of script)) (MayPut due (idle v) (lines_of script))

-- every line of the script was answered as it is due on the plain value, or `no 14 memory`, and all replies were written
pub record AnswersAsDue (c : Call) (due : State Typed → List ℕ → Due Typed) (v : Typed) (script : List ℕ) (status : Status) : Type 0 where
  pub replies : List Reply
  pub last : State Typed
  pub run : PlainRun due (idle v) (lines_of script) replies last
  pub written : Appends c.before.output.written c.after.output.written (texts replies)
  pub status_is : status ≡ (if list_any is_no replies then S.Refused else S.Done)

-- the script was answered as on the plain value that stands under the root; or memory was wanting
abbrev pub AnswersBeneath : List ℕ × List ℕ → Call → Status → Type 0
AnswersBeneath s c status =
    (rows : List Row) (n : TypeNo) (tests : Tests) (v : Typed) (script : List ℕ) (given : IsGivenBeneath s c rows n tests v script)
    → LetsAnswer c (due_beneath rows n tests given.stands.name given.stands.source) v script
    → (status ≡ S.Memory) ⊎ AnswersAsDue c (due_beneath rows n tests given.stands.name given.stands.source) v script status

abbrev pub IsAnsweredBy : Option (List ℕ × List ℕ) → Call → Status → Type 0
IsAnsweredBy None c status = Unit {0}
IsAnsweredBy (Some s) c status = AnswersBeneath s c status

-- The premise on collisions can be met: where all that a store holds, and all that the lines may put, are among blocks of which no two have
-- one id.
abbrev pub LinesCanBeApart : Type 0
LinesCanBeApart = (due : State Typed → List ℕ → Due Typed) (v : Typed) (script : List ℕ) (own : List (List ℕ)) (n : Moment) (held : List (List ℕ)) → n.blocks ≡ Some held
    → ((id b : List ℕ) → block_at held id ≡ Some b → Contains own b) → ((b : List ℕ) → MayPut due (idle v) (lines_of script) b → Contains own b)
    → ((a b : List ℕ) → Contains own a → Contains own b → id_of a ≡ id_of b → a ≡ b)
    → AreAllApart n (MayBegin due (idle v) (lines_of script)) (MayPut due (idle v) (lines_of script))
