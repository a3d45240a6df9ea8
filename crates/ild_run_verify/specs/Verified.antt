-- What an input says of a path into the value of a type under a root, as a proof, and how that is told.
use Rattle.std.specs.Prelude.{◌≡◌, ◌≤◌, ℕ, List, Bool, Result, Ok, Err}
use Rattle.ild_edges.specs.Count.{Rose}
use Rattle.ild_edges.specs.Sink.{Output, Appends, AppendsFront}
use Rattle.ild_inclusion.specs.Says.{BlocksSay, IsWrongFirst}
use Rattle.ild_inclusion.specs.declared.answer.Answer.{Answer}
use Rattle.ild_inclusion.specs.declared.fault.Reject.{Reject}
use Rattle.ild_schema.specs.declared.number.TypeNo.{TypeNo}
use Rattle.ild_schema.specs.declared.row.Row.{Row}
use Rattle.ild_script_session.specs.declared.cut.Cut.TheVariants as C
use Rattle.ild_run_verify.specs.Line.{Line, line_text, is_reserved, IsLineOf}
use Rattle.ild_run_verify.specs.Proof.{IsProof}
use Rattle.ild_run_verify.specs.declared.fault.VerifyFault.{VerifyFault}
use Rattle.ild_run_verify.specs.declared.fault.VerifyFault.TheVariants as F

-- the line of an answer was written
pub record WritesLine (a : Answer) (reserved : Bool) (was now : Output) : Type 0 where
  pub line : Line
  pub line_of : IsLineOf a line
  pub reserved_is : is_reserved line ≡ reserved
  pub written : Appends was.written now.written (line_text line)

-- a front of it was written
pub record WritesFront (a : Answer) (was now : Output) : Type 0 where
  pub line : Line
  pub line_of : IsLineOf a line
  pub written : AppendsFront was.written now.written (line_text line)

module _ (h : List ℕ → List ℕ) (rows : List Row) (n : TypeNo) (id : List ℕ) (path : List (List ℕ)) (input : List ℕ) where
  -- the input is a proof, whose blocks say this
  pub record ProofSays (a : Answer) : Type 0 where
    pub blocks : List (List ℕ)
    pub proof : IsProof input blocks
    pub says : BlocksSay h rows n id path blocks a

  -- the input is no proof, or something is wrong with a block of it
  abbrev pub SaysNothing : Type 0
  SaysNothing = (blocks : List (List ℕ)) → IsProof input blocks → (r : Reject) × IsWrongFirst h rows n id path blocks r

  -- what the input says was told
  pub record IsTold (reserved : Bool) (was now : Output) : Type 0 where
    pub answer : Answer
    pub says : ProofSays answer
    pub writes : WritesLine answer reserved was now

  -- a front of its line was written
  pub record IsCutOff (was now : Output) : Type 0 where
    pub answer : Answer
    pub says : ProofSays answer
    pub writes : WritesFront answer was now

  -- true: there is a part, but its representation has no JSON
  abbrev pub VerifyAnswer : Output → Result Bool VerifyFault → Output → Type 0
  VerifyAnswer was (Ok reserved) now = IsTold reserved was now
  VerifyAnswer was (Err F.Proof) now = SaysNothing × (now ≡ was)
  VerifyAnswer was (Err F.Memory) now = now ≡ was
  VerifyAnswer was (Err (F.Cut C.Sink)) now = Rose was.faults now.faults × IsCutOff was now
  VerifyAnswer was (Err (F.Cut C.Memory)) now = IsCutOff was now

  pub record VerifiedAs (was : Output) (result : Result Bool VerifyFault) (now : Output) : Type 0 where
    pub answer : VerifyAnswer was result now
    pub faults : was.faults ≤ now.faults
