-- An input says one thing of a path, or nothing.
use Rattle.std.proofs.Common.{◌≡◌, ℕ, List, Ok, Err, subst}
use Rattle.ild_inclusion.proofs.Single.{one_outcome}
use Rattle.ild_inclusion.specs.Says.{BlocksSay}
use Rattle.ild_inclusion.specs.declared.answer.Answer.{Answer}
use Rattle.ild_schema.specs.declared.number.TypeNo.{TypeNo}
use Rattle.ild_schema.specs.declared.row.Row.{Row}
use Rattle.ild_typed.specs.Schema.{IsSchema}
use Rattle.ild_run_verify.specs.Verified.{ProofSays, SaysNothing}
use Rattle.ild_run_verify.proofs.Blocks.{one_proof}

module _ (h : List ℕ → List ℕ) (rows : List Row) (schema : IsSchema rows) (n : TypeNo) (id : List ℕ) (path : List (List ℕ)) (input : List ℕ) where
  pub one_said : (a b : Answer) → ProofSays h rows n id path input a → ProofSays h rows n id path input b → a ≡ b
  one_said a b one two =
      let same = one_proof input one.blocks two.blocks one.proof two.proof in
      let says = subst (λ (bs : List (List ℕ)). BlocksSay h rows n id path bs a) same one.says in
      let is = one_outcome h rows schema n id path two.blocks (Ok a) (Ok b) says two.says in
      cc

  pub none_said : (a : Answer) → ProofSays h rows n id path input a → SaysNothing h rows n id path input → ⊥
  none_said a says nothing =
      let wrong = nothing says.blocks says.proof in
      let is = one_outcome h rows schema n id path says.blocks (Ok a) (Err wrong.0) says.says wrong.1 in
      cc
