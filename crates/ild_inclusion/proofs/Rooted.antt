-- The first block of a proof.
use Rattle.std.proofs.Common.{◌≡◌, ℕ, List, ◌∷◌, Ok, Err, Result, sym, subst}
use Rattle.ild_cbor.specs.Block.{IsBlockOf}
use Rattle.ild_cbor.specs.Nodes.{HasData}
use Rattle.ild_cbor.specs.declared.node.Node.{Node}
use Rattle.ild_data.specs.Data.{Data}
use Rattle.ild_data.specs.Limits.{deepest}
use Rattle.ild_data.specs.Spell.{id_of}
use Rattle.ild_schema.specs.Slots.{plainly}
use Rattle.ild_schema.specs.Value.{Value}
use Rattle.ild_schema.specs.declared.number.Slot.{Slot}
use Rattle.ild_schema.specs.declared.number.TypeNo.{TypeNo}
use Rattle.ild_schema.specs.declared.row.Row.{Row}
use Rattle.ild_typed.specs.Fits.{Front}
use Rattle.ild_view.specs.Parts.{IsPartView}
use Rattle.ild_view.specs.View.{IsView, slot_of, table_of}
use Rattle.ild_view.specs.declared.view.View.{View}
use Rattle.ild_inclusion.specs.Branches.{so}
use Rattle.ild_inclusion.specs.Given.{FrontGiven, RefusedGiven, SpellingGiven, WrongGiven}
use Rattle.ild_inclusion.specs.Says.{Follows, Fronted, Walks}
use Rattle.ild_inclusion.specs.Way.{Spelling}
use Rattle.ild_inclusion.specs.inside.Found.{FoundGives}
use Rattle.ild_inclusion.specs.declared.found.Found.{Found}
use Rattle.ild_inclusion.specs.declared.fault.Reject.TheVariants as R
use Rattle.ild_inclusion.specs.declared.fault.VerifyErr.{VerifyErr}
use Rattle.ild_inclusion.specs.declared.fault.VerifyErr.TheVariants as V
use Rattle.ild_inclusion.proofs.Mapping.{finds_map}

module _ (h : List ℕ → List ℕ) (rows : List Row) (n : TypeNo) (id : List ℕ) (path blocks : List (List ℕ)) (first : List ℕ) (left : List (List ℕ)) (is : blocks ≡ first ∷ left) where
  abbrev Rest : Result Found VerifyErr → Data → Type 0
  Rest result t = Fronted rows deepest 0 (plainly n) t (λ f. Follows h rows (FoundGives result) deepest 0 0 (plainly n, f) path left) (λ r. FoundGives result (Err r))

  walks_on : (one two : List ℕ) → one ≡ first → two ≡ first → id_of one ≡ id → (node : Node) → Spelling 0 two (SpellingGiven (Ok node)) (WrongGiven {X = Node} (Ok node)) → (result : Result Found VerifyErr) → ((t : Data) → HasData node t → Rest result t)
      → Walks h rows n id path (FoundGives result) blocks
  walks_on one two same also named node spelled result rest =
      subst (λ (xs : List (List ℕ)). Walks h rows n id path (FoundGives result) xs) (sym is)
      (so (subst (λ (b : List ℕ). id_of b ≡ id) same named)
      (finds_map (IsBlockOf first) (SpellingGiven (Ok node)) (Rest result) _ _ rest (λ e. absurd cc) (subst (λ (b : List ℕ). Spelling 0 b (SpellingGiven (Ok node)) (WrongGiven {X = Node} (Ok node))) also spelled)))

  -- its data have a front
  pub walks_from : (one two : List ℕ) → one ≡ first → two ≡ first → id_of one ≡ id → (node : Node) → Spelling 0 two (SpellingGiven (Ok node)) (WrongGiven {X = Node} (Ok node)) → (result : Result Found VerifyErr) → (v : View)
      → ((t : Data) → HasData node t → Fronted rows deepest 0 (plainly n) t (FrontGiven rows (plainly n) (Ok v)) (RefusedGiven {X = View} (Ok v)))
      → ((f : Value) → IsView v f → Follows h (table_of v) (FoundGives result) deepest 0 0 (slot_of v, f) path left) → Walks h rows n id path (FoundGives result) blocks
  walks_from one two same also named node spelled result v fronted follows =
      walks_on one two same also named node spelled result (λ t stands. finds_map (λ f. Front rows deepest (plainly n) f t) (λ f. IsPartView rows (plainly n, f) v) _ _ _ on (λ e. absurd cc) (fronted t stands)) where
        on : (f : Value) → IsPartView rows (plainly n, f) v → Follows h rows (FoundGives result) deepest 0 0 (plainly n, f) path left
        on f part =
            subst (λ (r : List Row). Follows h r (FoundGives result) deepest 0 0 (plainly n, f) path left) part.table
            (subst (λ (u : Slot). Follows h (table_of v) (FoundGives result) deepest 0 0 (u, f) path left) part.slot (follows f part.view))

  -- they have none, or memory is wanting
  pub walks_refused : (one two : List ℕ) → one ≡ first → two ≡ first → id_of one ≡ id → (node : Node) → Spelling 0 two (SpellingGiven (Ok node)) (WrongGiven {X = Node} (Ok node)) → (e : VerifyErr)
      → ((t : Data) → HasData node t → Fronted rows deepest 0 (plainly n) t (FrontGiven rows (plainly n) (Err e)) (RefusedGiven {X = View} (Err e))) → Walks h rows n id path (FoundGives (Err e)) blocks
  walks_refused one two same also named node spelled e fronted =
      walks_on one two same also named node spelled (Err e) (λ t stands. finds_map (λ f. Front rows deepest (plainly n) f t) (FrontGiven rows (plainly n) (Err e)) _ _ _ (λ f none. absurd none) again (fronted t stands)) where
        again : RefusedGiven {X = View} (Err e) (R.Shape 0) → FoundGives (Err e) (Err (R.Shape 0))
        again r = let eq : e ≡ V.Reject (R.Shape 0) = cc in eq
