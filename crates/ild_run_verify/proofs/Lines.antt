-- The line of an answer, and what an input says.
use Rattle.std.proofs.Common.{ℕ, List, Bool, Result, Ok, Err, refl, sym, subst, arith}
use Rattle.ild_edges.specs.Sink.{Output}
use Rattle.ild_inclusion.specs.Says.{IsWrongFirst}
use Rattle.ild_inclusion.specs.Verifies.{answer_of}
use Rattle.ild_inclusion.specs.declared.answer.Answer.{Answer}
use Rattle.ild_inclusion.specs.declared.answer.Part.{Part}
use Rattle.ild_inclusion.specs.declared.fault.Reject.{Reject}
use Rattle.ild_schema.specs.declared.number.TypeNo.{TypeNo}
use Rattle.ild_schema.specs.declared.row.Row.{Row}
use Rattle.ild_script_session.specs.declared.cut.Cut.TheVariants as C
use Rattle.ild_run_verify.specs.Line.{Line, line_text, is_reserved, IsLineOf}
use Rattle.ild_run_verify.specs.Proof.{IsProof}
use Rattle.ild_run_verify.specs.Verified.{ProofSays, SaysNothing, VerifyAnswer, VerifiedAs}
use Rattle.ild_run_verify.specs.inside.Read.{ReadsProof}
use Rattle.ild_run_verify.specs.inside.Tells.{SaidAnswer, WritesAnswer, WritesText, TellsAnswer, Tells}
use Rattle.ild_run_verify.specs.declared.fault.VerifyFault.{VerifyFault}
use Rattle.ild_run_verify.specs.declared.fault.VerifyFault.TheVariants as F
use Rattle.ild_run_verify.proofs.Blocks.{one_proof}

-- ---- the line is written

pub tells_line : (a : Answer) (line : Line) (was : Output) (result : Result Bool VerifyFault) (now : Output) → IsLineOf a line → WritesText (line_text line) (is_reserved line) was result now → Tells a was result now
tells_line a line was result now of writes = record { answer = by result writes.answer; faults = writes.faults } where
  by : (result : Result Bool VerifyFault) → WritesAnswer (line_text line) (is_reserved line) was result now → TellsAnswer a was result now
  by (Ok told) w = record { line = line; line_of = of; reserved_is = sym w.0; written = w.1 }
  by (Err F.Proof) w = absurd w
  by (Err F.Memory) w = absurd w
  by (Err (F.Cut C.Sink)) w = (w.0, record { line = line; line_of = of; written = w.1 })
  by (Err (F.Cut C.Memory)) w = record { line = line; line_of = of; written = w }

module _ (h : List ℕ → List ℕ) (rows : List Row) (n : TypeNo) (id : List ℕ) (path : List (List ℕ)) (input : List ℕ) where
  -- ---- what it says

  pub says_wrong : (blocks : List (List ℕ)) (r : Reject) → IsProof input blocks → IsWrongFirst h rows n id path blocks r → SaysNothing h rows n id path input
  says_wrong blocks r proof wrong others other = (r, subst (λ (bs : List (List ℕ)). IsWrongFirst h rows n id path bs r) (one_proof input blocks others proof other) wrong)

  pub says_none : ((blocks : List (List ℕ)) → IsProof input blocks → ⊥) → SaysNothing h rows n id path input
  says_none none blocks proof = absurd (none blocks proof)

  pub unread : (f : VerifyFault) → ReadsProof input (Err f) → SaidAnswer h rows n id path input (Err f)
  unread F.Proof none = says_none none
  unread F.Memory read = tt
  unread (F.Cut cut) read = absurd read

  -- ---- and how it is told

  pub verified : (part : Part) (was : Output) (result : Result Bool VerifyFault) (now : Output) → ProofSays h rows n id path input (answer_of part) → Tells (answer_of part) was result now → VerifiedAs h rows n id path input was result now
  verified part was result now says tells = record { answer = by result tells.answer; faults = tells.faults } where
    by : (result : Result Bool VerifyFault) → TellsAnswer (answer_of part) was result now → VerifyAnswer h rows n id path input was result now
    by (Ok told) w = record { answer = answer_of part; says = says; writes = w }
    by (Err F.Proof) w = absurd w
    by (Err F.Memory) w = w
    by (Err (F.Cut C.Sink)) w = (w.0, record { answer = answer_of part; says = says; writes = w.1 })
    by (Err (F.Cut C.Memory)) w = record { answer = answer_of part; says = says; writes = w }

  pub refused : (f : VerifyFault) (was : Output) → SaidAnswer h rows n id path input (Err f) → VerifiedAs h rows n id path input was (Err f) was
  refused f was said = record { answer = by f said; faults = omega arith } where
    by : (f : VerifyFault) → SaidAnswer h rows n id path input (Err f) → VerifyAnswer h rows n id path input was (Err f) was
    by F.Proof nothing = (nothing, refl)
    by F.Memory said = refl
    by (F.Cut cut) said = absurd said
