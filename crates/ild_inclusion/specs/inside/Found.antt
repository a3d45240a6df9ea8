-- Where a path leads, before it is written out.
use Rattle.std.specs.Prelude.{◌≡◌, ℕ, List, Result, Ok, Err}
use Rattle.ild_schema.specs.Value.{Value}
use Rattle.ild_view.specs.View.{IsView, slot_of, table_of}
use Rattle.ild_view.specs.declared.view.View.{View}
use Rattle.ild_inclusion.specs.Says.{Outcome}
use Rattle.ild_inclusion.specs.declared.answer.Answer.{Answer}
use Rattle.ild_inclusion.specs.declared.answer.Answer.TheVariants as A
use Rattle.ild_inclusion.specs.declared.fault.VerifyErr.{VerifyErr}
use Rattle.ild_inclusion.specs.declared.fault.VerifyErr.TheVariants as V
use Rattle.ild_inclusion.specs.declared.found.Found.{Found}
use Rattle.ild_inclusion.specs.declared.found.Found.TheVariants as N
use Rattle.ild_inclusion.specs.inside.Shown.{IsShown}

-- the view is of a part whose representation is spelled so
pub record IsHere (v : View) (b : List ℕ) : Type 0 where
  pub value : Value
  pub view : IsView v value
  pub shown : IsShown (table_of v) (slot_of v) value b

abbrev pub IsFound : Found → Answer → Type 0
IsFound (N.Here v) (A.Here b) = IsHere v b
IsFound (N.Here v) (A.Absent k) = ⊥
IsFound (N.Absent j) (A.Here b) = ⊥
IsFound (N.Absent j) (A.Absent k) = j ≡ k

-- what is found gives the outcome
abbrev pub FoundGives : Result Found VerifyErr → Outcome → Type 0
FoundGives (Ok x) (Ok a) = IsFound x a
FoundGives (Ok x) (Err r) = ⊥
FoundGives (Err e) (Ok a) = ⊥
FoundGives (Err e) (Err r) = e ≡ V.Reject r
