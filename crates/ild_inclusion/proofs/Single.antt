-- Blocks say one thing of a path.
use Rattle.std.proofs.Common.{◌≡◌, ℕ, List, Option, Some, None, Result, Ok, Err, refl, sym, ap, ◌∙◌, subst}
use Rattle.ild_data.specs.Data.{Data}
use Rattle.ild_schema.specs.Clear.{IsSafe}
use Rattle.ild_schema.specs.Slots.{form_of, plainly}
use Rattle.ild_schema.specs.declared.def.TypeDef.{TypeDef}
use Rattle.ild_schema.specs.declared.number.Slot.{Slot}
use Rattle.ild_schema.specs.declared.number.TypeNo.{TypeNo}
use Rattle.ild_schema.specs.declared.row.Row.{Row}
use Rattle.ild_schema.specs.Value.{Value}
use Rattle.ild_typed.proofs.OneValue.{element_safe, plain_safe, safe_parts}
use Rattle.ild_typed.specs.Fits.{Front}
use Rattle.ild_typed.specs.Schema.{IsSchema}
use Rattle.ild_typed.specs.Slots.{element_of}
use Rattle.ild_inclusion.specs.Says.{Outcome, Walks}
use Rattle.ild_inclusion.proofs.Meeting.{walks_meet}
use Rattle.ild_schema.proofs.Legibly.{legible}
use Rattle.ild_typed.specs.Hamt.{alone}
use Rattle.ild_typed.proofs.OneValue.{alone_exact, one_value}
use Rattle.ild_inclusion.specs.Given.{Gives, HasMemory}
use Rattle.ild_inclusion.specs.Says.{IsWrongFirst, BlocksSay}
use Rattle.ild_inclusion.specs.Verifies.{Verifies, VerifyAnswer}
use Rattle.ild_inclusion.specs.declared.answer.Answer.{Answer}
use Rattle.ild_inclusion.specs.declared.fault.Reject.{Reject}
use Rattle.ild_inclusion.specs.declared.fault.VerifyErr.{VerifyErr}
use Rattle.ild_inclusion.specs.declared.fault.VerifyErr.TheVariants as V
use Rattle.ild_inclusion.proofs.Mapping.{walks_map}

module _ (h : List ℕ → List ℕ) (rows : List Row) (schema : IsSchema rows) where
  one_front : (s : Slot) → IsSafe rows s → (room : ℕ) (t : Data) (f g : Value) → Front rows room s f t → Front rows room s g t → f ≡ g
  one_front s safe room t f g p q = one_value alone alone_exact rows (legible rows schema.accepted).clear s safe f g t p.tree q.tree

  safe_by : (s u : Slot) (d : Option TypeDef) → form_of rows s ≡ d → element_of d ≡ Some u → IsSafe rows u
  safe_by s u None known e = absurd cc
  safe_by s u (Some d) known e = element_safe rows d (safe_parts rows (legible rows schema.accepted).clear s d known) u e

  safe_elements : (s u : Slot) → element_of (form_of rows s) ≡ Some u → IsSafe rows u
  safe_elements s u e = safe_by s u (form_of rows s) refl e

  module _ (n : TypeNo) (id : List ℕ) (path blocks : List (List ℕ)) where
    pub outcomes_meet : {C : Type 0} (Is Was : Outcome → Type 0) → ((o : Outcome) → Is o → Was o → C) → Walks h rows n id path Is blocks → Walks h rows n id path Was blocks → C
    outcomes_meet Is Was meet x y = walks_meet Is Was meet h rows one_front safe_elements n (plain_safe rows (plainly n) refl) id path blocks x y

    pub one_outcome : (o r : Outcome) → Walks h rows n id path (λ x. x ≡ o) blocks → Walks h rows n id path (λ x. x ≡ r) blocks → o ≡ r
    one_outcome o r x y = outcomes_meet (λ x. x ≡ o) (λ x. x ≡ r) (λ x is was. sym is ∙ was) x y

    -- what is given of a walk is its outcome
    module _ (result : Result Answer VerifyErr) where
      given_says : (a : Answer) → HasMemory result → BlocksSay h rows n id path blocks a → Walks h rows n id path (Gives result) blocks → result ≡ Ok a
      given_says a memory says w = outcomes_meet (Gives result) (λ x. x ≡ Ok a) (λ x gives is. subst (Gives result) is gives) w says

      given_wrong : (r : Reject) → HasMemory result → IsWrongFirst h rows n id path blocks r → Walks h rows n id path (Gives result) blocks → result ≡ Err (V.Reject r)
      given_wrong r memory wrong w = outcomes_meet (Gives result) (λ x. x ≡ Err r) (λ x gives is. subst (Gives result) is gives) w wrong

    answer_by : (result : Result Answer VerifyErr) → (HasMemory result → Walks h rows n id path (Gives result) blocks) → VerifyAnswer h rows n id path blocks result
    answer_by (Ok a) walk = walks_map (λ x. x ≡ Ok a) (Gives (Ok a)) (said a) h rows n id path blocks (walk (λ e. absurd cc)) where
      said : (a : Answer) (o : Outcome) → Gives (Ok a) o → o ≡ Ok a
      said a (Ok b) e = let same : a ≡ b = cc in ap Ok (sym same)
      said a (Err r) e = absurd cc
    answer_by (Err (V.Reject r)) walk = walks_map (λ x. x ≡ Err r) (Gives (Err (V.Reject r))) (said r) h rows n id path blocks (walk (λ e. absurd cc)) where
      said : (r : Reject) (o : Outcome) → Gives (Err (V.Reject r)) o → o ≡ Err r
      said r (Ok b) e = absurd cc
      said r (Err q) e = let same : r ≡ q = cc in ap Err (sym same)
    answer_by (Err V.Memory) walk = tt

    pub verifies : (result : Result Answer VerifyErr) → (HasMemory result → Walks h rows n id path (Gives result) blocks) → Verifies h rows n id path blocks result
    verifies result walk = record {
      answer = answer_by result walk;
      said = λ a says memory. given_says result a memory says (walk memory);
      wrong = λ r first memory. given_wrong result r memory first (walk memory);
    }
