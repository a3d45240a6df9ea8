-- A table has one verdict.
use Rattle.std.proofs.Common.{◌≡◌, ℕ, inl, inr, List, Some, None, sym, ap, ◌∙◌, arith}
use Rattle.std.proofs.lemmas.Bool.{cases_lt, cases_eq}
use Rattle.ild_schema.specs.declared.row.Row.{Row}
use Rattle.ild_schema.specs.Accept.{Fault, IsAccepted, IsFirstFault, IsCycleFault}
use Rattle.ild_schema.specs.Cycles.{FirstIsCyclic}
use Rattle.ild_schema.specs.Table.{place_at}

same_first : (rows : List Row) (m n : ℕ) → FirstIsCyclic rows m → FirstIsCyclic rows n → m ≡ n
same_first rows m n f g = elim (cases_eq m n) [
  | inl same ↦ same
  | inr other ↦ elim (cases_lt m n) [
    | inl below ↦ absurd (g.1 m below f.0)
    | inr above ↦ absurd (f.1 n (omega arith) g.0)
  ]
]

same_cycle : (rows : List Row) (f g : Fault) → IsCycleFault rows f → IsCycleFault rows g → f ≡ g
same_cycle rows f g h k =
    let ty : f.ty ≡ g.ty = same_first rows f.ty g.ty h.1 k.1 in
    let rule : f.rule ≡ g.rule = h.0 ∙ sym k.0 in
    let places : Some f.at ≡ Some g.at = sym h.2 ∙ ap (place_at rows) ty ∙ k.2 in
    let at : f.at ≡ g.at = cc in
    λ i. record { rule = rule i; ty = ty i; at = at i }

pub one_fault : (rows : List Row) (f g : Fault) → IsFirstFault rows f → IsFirstFault rows g → f ≡ g
one_fault rows f g (inl h) (inl k) = same_cycle rows f g h k
one_fault rows f g (inl h) (inr k) = absurd (k.0 f.ty h.1.0)
one_fault rows f g (inr h) (inl k) = absurd (h.0 g.ty k.1.0)
one_fault rows f g (inr h) (inr k) = let e : Some f ≡ Some g = sym h.1 ∙ k.1 in cc

pub no_fault : (rows : List Row) → IsAccepted rows → (f : Fault) → IsFirstFault rows f → ⊥
no_fault rows a f (inl h) = a.none_cyclic f.ty h.1.0
no_fault rows a f (inr h) = let e : None ≡ Some f = sym a.none_fails ∙ h.1 in absurd cc
