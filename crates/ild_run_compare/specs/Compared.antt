-- What is told of a type of a schema and one of a later schema: whether all that stands in a store as a value of the first
-- stands there as one of the other, or else a pair of types for which a rule fails.
use Rattle.std.specs.Prelude.{◌≡◌, ◌≤◌, ℕ, List, Bool, true, false, Option, Some, None, Result, Ok, Err, codes}
use Rattle.ild_compat.specs.Answered.{Compares}
use Rattle.ild_compat.specs.Line.{differ_line}
use Rattle.ild_compat.specs.declared.rule.Differ.{Differ}
use Rattle.ild_edges.specs.Count.{Rose}
use Rattle.ild_edges.specs.Sink.{Output, Appends, AppendsFront}
use Rattle.ild_schema.specs.Slots.{plainly}
use Rattle.ild_schema.specs.declared.number.TypeNo.{TypeNo}
use Rattle.ild_schema.specs.declared.row.Row.{Row}
use Rattle.ild_script.specs.Reply.{reply_text}
use Rattle.ild_script.specs.declared.reply.Reply.TheVariants as R
use Rattle.ild_script_session.specs.declared.cut.Cut.TheVariants as C
use Rattle.ild_run_compare.specs.declared.fault.CompareFault.{CompareFault}
use Rattle.ild_run_compare.specs.declared.fault.CompareFault.TheVariants as F

-- `ok true`, or `differ N NAME at A B`
abbrev pub compared_text : Option Differ → List ℕ
compared_text None = reply_text (R.Ok (codes "true"))
compared_text (Some d) = differ_line d

-- ---- a text that is written

abbrev pub TellsAnswer : List ℕ → Output → Result (Unit {0}) CompareFault → Output → Type 0
TellsAnswer text was (Ok _) now = Appends was.written now.written text
TellsAnswer text was (Err F.Memory) now = now ≡ was
TellsAnswer text was (Err (F.Cut C.Sink)) now = Rose was.faults now.faults × AppendsFront was.written now.written text
TellsAnswer text was (Err (F.Cut C.Memory)) now = AppendsFront was.written now.written text

pub record Tells (text : List ℕ) (was : Output) (result : Result (Unit {0}) CompareFault) (now : Output) : Type 0 where
  pub answer : TellsAnswer text was result now
  pub faults : was.faults ≤ now.faults

-- ---- two types that are compared

module _ (rows others : List Row) (m n : TypeNo) where
  -- the types are compatible, or a pair that is reached from them fails a rule, which is told; and the text of that was written
  pub record IsTold (found : Option Differ) (was now : Output) : Type 0 where
    pub compares : Compares rows others (plainly m) (plainly n) found
    pub written : Appends was.written now.written (compared_text found)

  -- a front of that text was written
  pub record IsCutOff (was now : Output) : Type 0 where
    pub found : Option Differ
    pub compares : Compares rows others (plainly m) (plainly n) found
    pub written : AppendsFront was.written now.written (compared_text found)

  -- true: the types are compatible; false: they are not
  abbrev pub ComparedAnswer : Output → Result Bool CompareFault → Output → Type 0
  ComparedAnswer was (Ok true) now = IsTold None was now
  ComparedAnswer was (Ok false) now = (d : Differ) × IsTold (Some d) was now
  ComparedAnswer was (Err F.Memory) now = now ≡ was
  ComparedAnswer was (Err (F.Cut C.Sink)) now = Rose was.faults now.faults × IsCutOff was now
  ComparedAnswer was (Err (F.Cut C.Memory)) now = IsCutOff was now

  pub record ComparedAs (was : Output) (result : Result Bool CompareFault) (now : Output) : Type 0 where
    pub answer : ComparedAnswer was result now
    pub faults : was.faults ≤ now.faults
