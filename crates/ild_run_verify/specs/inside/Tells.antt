-- What is read off a proof, and the line of it, as it is written.
use Rattle.std.specs.Prelude.{◌≡◌, ◌≤◌, ℕ, List, Bool, Result, Ok, Err}
use Rattle.ild_edges.specs.Count.{Rose}
use Rattle.ild_edges.specs.Sink.{Output, Appends, AppendsFront}
use Rattle.ild_inclusion.specs.Verifies.{answer_of}
use Rattle.ild_inclusion.specs.declared.answer.Answer.{Answer}
use Rattle.ild_inclusion.specs.declared.answer.Part.{Part}
use Rattle.ild_schema.specs.declared.number.TypeNo.{TypeNo}
use Rattle.ild_schema.specs.declared.row.Row.{Row}
use Rattle.ild_script_session.specs.declared.cut.Cut.TheVariants as C
use Rattle.ild_run_verify.specs.Verified.{ProofSays, SaysNothing, WritesLine, WritesFront}
use Rattle.ild_run_verify.specs.declared.fault.VerifyFault.{VerifyFault}
use Rattle.ild_run_verify.specs.declared.fault.VerifyFault.TheVariants as F

-- what the input says
abbrev pub SaidAnswer : (List ℕ → List ℕ) → List Row → TypeNo → List ℕ → List (List ℕ) → List ℕ → Result Part VerifyFault → Type 0
SaidAnswer h rows n id path input (Ok part) = ProofSays h rows n id path input (answer_of part)
SaidAnswer h rows n id path input (Err F.Proof) = SaysNothing h rows n id path input
SaidAnswer h rows n id path input (Err F.Memory) = Unit {0}
SaidAnswer h rows n id path input (Err (F.Cut cut)) = ⊥

-- a text that is written
abbrev pub WritesAnswer : List ℕ → Bool → Output → Result Bool VerifyFault → Output → Type 0
WritesAnswer text reserved was (Ok told) now = (told ≡ reserved) × Appends was.written now.written text
WritesAnswer text reserved was (Err F.Proof) now = ⊥
WritesAnswer text reserved was (Err F.Memory) now = ⊥
WritesAnswer text reserved was (Err (F.Cut C.Sink)) now = Rose was.faults now.faults × AppendsFront was.written now.written text
WritesAnswer text reserved was (Err (F.Cut C.Memory)) now = AppendsFront was.written now.written text

pub record WritesText (text : List ℕ) (reserved : Bool) (was : Output) (result : Result Bool VerifyFault) (now : Output) : Type 0 where
  pub answer : WritesAnswer text reserved was result now
  pub faults : was.faults ≤ now.faults

-- the line of an answer that is written
abbrev pub TellsAnswer : Answer → Output → Result Bool VerifyFault → Output → Type 0
TellsAnswer a was (Ok reserved) now = WritesLine a reserved was now
TellsAnswer a was (Err F.Proof) now = ⊥
TellsAnswer a was (Err F.Memory) now = now ≡ was
TellsAnswer a was (Err (F.Cut C.Sink)) now = Rose was.faults now.faults × WritesFront a was now
TellsAnswer a was (Err (F.Cut C.Memory)) now = WritesFront a was now

pub record Tells (a : Answer) (was : Output) (result : Result Bool VerifyFault) (now : Output) : Type 0 where
  pub answer : TellsAnswer a was result now
  pub faults : was.faults ≤ now.faults
