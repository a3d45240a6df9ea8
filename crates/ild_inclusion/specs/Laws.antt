-- The laws of what blocks say.
use Rattle.std.specs.Prelude.{◌≡◌, ℕ, List}
use Rattle.ild_schema.specs.declared.number.TypeNo.{TypeNo}
use Rattle.ild_schema.specs.declared.row.Row.{Row}
use Rattle.ild_typed.specs.Schema.{IsSchema}
use Rattle.ild_inclusion.specs.Says.{IsWrongFirst, BlocksSay}
use Rattle.ild_inclusion.specs.declared.answer.Answer.{Answer}
use Rattle.ild_inclusion.specs.declared.fault.Reject.{Reject}

-- blocks say one thing of a path, or one thing is wrong first, and not both
pub record SaysOneThing (h : List ℕ → List ℕ) (rows : List Row) (n : TypeNo) (id : List ℕ) (path blocks : List (List ℕ)) : Type 0 where
  pub answers : (a b : Answer) → BlocksSay h rows n id path blocks a → BlocksSay h rows n id path blocks b → a ≡ b
  pub rejects : (r q : Reject) → IsWrongFirst h rows n id path blocks r → IsWrongFirst h rows n id path blocks q → r ≡ q
  pub apart : (a : Answer) (r : Reject) → BlocksSay h rows n id path blocks a → IsWrongFirst h rows n id path blocks r → ⊥

abbrev pub ProofsSayOneThing : Type 0
ProofsSayOneThing = (h : List ℕ → List ℕ) (rows : List Row) → IsSchema rows → (n : TypeNo) (id : List ℕ) (path blocks : List (List ℕ)) → SaysOneThing h rows n id path blocks
