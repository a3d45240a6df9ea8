-- What checking a proof answers.
use Rattle.std.specs.Prelude.{◌≡◌, ℕ, List, Result, Ok, Err}
use Rattle.ild_schema.specs.declared.number.TypeNo.{TypeNo}
use Rattle.ild_schema.specs.declared.row.Row.{Row}
use Rattle.ild_data.specs.Seen.{data_of}
use Rattle.ild_data.specs.Spell.{spell}
use Rattle.ild_inclusion.specs.Given.{HasMemory}
use Rattle.ild_inclusion.specs.Says.{IsWrongFirst, BlocksSay}
use Rattle.ild_inclusion.specs.declared.answer.Answer.{Answer}
use Rattle.ild_inclusion.specs.declared.answer.Answer.TheVariants as A
use Rattle.ild_inclusion.specs.declared.answer.Part.{Part}
use Rattle.ild_inclusion.specs.declared.answer.Part.TheVariants as P
use Rattle.ild_inclusion.specs.declared.fault.Reject.{Reject}
use Rattle.ild_inclusion.specs.declared.fault.VerifyErr.{VerifyErr}
use Rattle.ild_inclusion.specs.declared.fault.VerifyErr.TheVariants as V

abbrev pub VerifyAnswer : (List ℕ → List ℕ) → List Row → TypeNo → List ℕ → List (List ℕ) → List (List ℕ) → Result Answer VerifyErr → Type 0
VerifyAnswer h rows n id path blocks (Ok a) = BlocksSay h rows n id path blocks a
VerifyAnswer h rows n id path blocks (Err (V.Reject r)) = IsWrongFirst h rows n id path blocks r
VerifyAnswer h rows n id path blocks (Err V.Memory) = Unit {0}

-- what the blocks say is answered, and else what is wrong first on the way, unless memory is wanting
pub record Verifies (h : List ℕ → List ℕ) (rows : List Row) (n : TypeNo) (id : List ℕ) (path blocks : List (List ℕ)) (result : Result Answer VerifyErr) : Type 0 where
  pub answer : VerifyAnswer h rows n id path blocks result
  pub said : (a : Answer) → BlocksSay h rows n id path blocks a → HasMemory result → result ≡ Ok a
  pub wrong : (r : Reject) → IsWrongFirst h rows n id path blocks r → HasMemory result → result ≡ Err (V.Reject r)

-- the answer that a part is, with its representation spelled
abbrev pub answer_of : Part → Answer
answer_of (P.Here tree) = A.Here (spell (data_of tree))
answer_of (P.Absent k) = A.Absent k

abbrev pub result_of : Result Part VerifyErr → Result Answer VerifyErr
result_of (Ok part) = Ok (answer_of part)
result_of (Err e) = Err e
