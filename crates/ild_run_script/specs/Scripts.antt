-- What running a script on the value of a type answers, and what it leaves of the store (IPLD Schemas; IPLD HashMap; DAG-CBOR).
use Rattle.std.specs.Prelude.{◌≡◌, ℕ, ◌+◌, ◌≤◌, List, ◌++◌, length, Bool, None, Some, Result, Ok, Err}
use Rattle.std.specs.List.{list_any}
use Rattle.ild_data.specs.Spell.{id_of}
use Rattle.ild_edges.specs.Count.{Rose}
use Rattle.ild_edges.specs.Sink.{Output, Appends, AppendsFront}
use Rattle.ild_edges.specs.Store.{Moment, Later, block_at}
use Rattle.ild_edges.specs.Told.{IfTold}
use Rattle.ild_path_edits.specs.Judged.{Tests, AreTests}
use Rattle.ild_schema.specs.Value.{Value}
use Rattle.ild_schema.specs.declared.number.TypeNo.{TypeNo}
use Rattle.ild_schema.specs.declared.row.Row.{Row}
use Rattle.ild_script.specs.Line.{lines_of}
use Rattle.ild_script.specs.Reply.{is_no}
use Rattle.ild_script.specs.declared.reply.Reply.{Reply}
use Rattle.ild_script_meaning.specs.Lines.{Setting, typed_lines}
use Rattle.ild_script_session.specs.Run.{Run, texts, most_gets, most_puts}
use Rattle.ild_script_session.specs.Session.{Meaning, Stage, resting, left}
use Rattle.ild_script_session.specs.Stands.{AreAnswered}
use Rattle.ild_script_session.specs.Step.{Carries}
use Rattle.ild_script_session.specs.declared.cut.Cut.TheVariants as C
use Rattle.ild_typed.specs.Stands.{bare, blocks_of, Stands}
use Rattle.ild_view_doc.specs.Docs.{block_in, table_in, type_in}
use Rattle.ild_run_document.specs.Document.{begun_in, doc_in}
use Rattle.ild_run_document.specs.Passes.{Passes}
use Rattle.ild_run_document.specs.declared.document.Document.{Document}
use Rattle.ild_run_open.specs.Starts.{HasFirst, IsFirstBlock, Stops, Asks}
use Rattle.ild_run_open.specs.declared.start.Start.{Start}
use Rattle.ild_run_open.specs.declared.start.Start.TheVariants as S
use Rattle.ild_run_script.specs.declared.fault.ScriptFault.{ScriptFault}
use Rattle.ild_run_script.specs.declared.fault.ScriptFault.TheVariants as F

-- ---- what lines mean

-- what the lines are about: values of the type under bare roots, where keys are hashed by sha2-256
abbrev pub setting : List Row → TypeNo → Tests → Setting
setting rows ty tests = record { frame = bare; hash = id_of; rows = rows; tests = tests; ty = ty }

abbrev pub lines_on : List Row → TypeNo → Tests → Meaning Value
lines_on rows ty tests = typed_lines (setting rows ty tests)

-- ---- what opening costs at most, where the value has so many blocks

abbrev pub start_gets : Start → ℕ → ℕ
start_gets (S.Root root) blocks = blocks
start_gets S.Empty blocks = 0

abbrev pub start_puts : Start → ℕ
start_puts (S.Root root) = 0
start_puts S.Empty = 1

-- a value stands under the id of its root block
pub record StandsThere (rows : List Row) (ty : TypeNo) (held : List (List ℕ)) (v : Value) : Type 0 where
  pub root : List ℕ
  pub is : Stands bare (block_at held) id_of rows ty root v

module _ (rows : List Row) (ty : TypeNo) (start : Start) where
  -- ---- lines

  -- Where these blocks were held behind the opening: a value stood there, which is that of the root or the empty one, and these lines were
  -- answered as they are due on it. The value that they left stands in the store. All in all there were no more gets and puts than of the opening and the lines together.
  pub record AnswersFrom (tests : Tests) (block : List ℕ) (held : List (List ℕ)) (m opened : Moment) (lines : List (List ℕ)) (replies : List Reply) (n : Moment) : Type 0 where
    pub first : HasFirst id_of rows ty start block held
    pub carried : Carries (lines_on rows ty tests) opened (resting first.value)
    pub last : Stage Value
    pub run : Run (lines_on rows ty tests) opened (resting first.value) lines replies n last
    pub stands : IfTold n.blocks (λ now. StandsThere rows ty now (left last.state))
    pub gets : n.gets ≤ m.gets + (start_gets start (length (blocks_of bare id_of rows ty first.value first.is.stands.tree))
        + most_gets (lines_on rows ty tests) opened (resting first.value) lines replies n last run)
    pub puts : n.puts ≤ m.puts + (start_puts start + most_puts (lines_on rows ty tests) opened (resting first.value) lines replies n last run)

  -- A session outside any batch, over the document that was opened.
  pub record StartsAs (block : List ℕ) (session : Document) : Type 0 where
    pub table : table_in (doc_in session) ≡ rows
    pub type : type_in (doc_in session) ≡ ty
    pub block_is : block_in (doc_in session) ≡ block
    pub outside : begun_in session ≡ None

  -- The document was opened, which has this block, and these lines were answered, each from where the one before left the session. Where the
  -- store tells what it holds, they are answered from the value that stands there, by whichever tests of the table.
  pub record Answers (m : Moment) (lines : List (List ℕ)) (replies : List Reply) (n : Moment) : Type 0 where
    pub opened : Moment
    pub asks : Asks id_of rows ty start m opened
    pub block : List ℕ
    pub first : IsFirstBlock id_of rows ty start block
    pub session : Document
    pub starts : StartsAs block session
    pub after : Document
    pub answered : AreAnswered Passes session opened lines replies n after
    pub later : Later opened n
    pub from : (held : List (List ℕ)) (tests : Tests) → opened.blocks ≡ Some held → AreTests rows tests → AnswersFrom tests block held m opened lines replies n

  -- ---- the script

  -- each of its lines was answered, and all replies were written
  pub record AnswersAll (script : List ℕ) (m : Moment) (was : Output) (refused : Bool) (n : Moment) (now : Output) : Type 0 where
    pub replies : List Reply
    pub answered : Answers m (lines_of script) replies n
    pub written : Appends was.written now.written (texts replies)
    pub refused_is : refused ≡ list_any is_no replies

  -- its first lines were answered, and a front of their replies was written
  pub record AnswersSome (script : List ℕ) (m : Moment) (was : Output) (n : Moment) (now : Output) : Type 0 where
    pub first : List (List ℕ)
    pub rest : List (List ℕ)
    pub lines : lines_of script ≡ first ++ rest
    pub replies : List Reply
    pub answered : Answers m first replies n
    pub written : AppendsFront was.written now.written (texts replies)

  abbrev pub ScriptAnswer : List ℕ → Moment → Output → Result Bool ScriptFault → Moment → Output → Type 0
  ScriptAnswer script m was (Ok refused) n now = AnswersAll script m was refused n now
  ScriptAnswer script m was (Err (F.Start f)) n now = Stops id_of rows ty start m f n × Asks id_of rows ty start m n × (now ≡ was)
  ScriptAnswer script m was (Err (F.Cut C.Sink)) n now = Rose was.faults now.faults × AnswersSome script m was n now
  ScriptAnswer script m was (Err (F.Cut C.Memory)) n now = AnswersSome script m was n now

  pub record Scripts (script : List ℕ) (m : Moment) (was : Output) (result : Result Bool ScriptFault) (n : Moment) (now : Output) : Type 0 where
    pub answer : ScriptAnswer script m was result n now
    pub later : Later m n
    pub faults : was.faults ≤ now.faults
