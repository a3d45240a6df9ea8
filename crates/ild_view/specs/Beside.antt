-- Parts in their slot, each beside the data that a block shows for it, in order.
use Rattle.std.specs.Prelude.{◌≡◌, ℕ, List, [], ◌∷◌}
use Rattle.ild_data.specs.Data.{Data}
use Rattle.ild_schema.specs.declared.number.Slot.{Slot}
use Rattle.ild_schema.specs.declared.row.Row.{Row}
use Rattle.ild_typed.specs.At.{InSlot}
use Rattle.ild_typed.specs.Fits.{Front}

-- the part is of this slot, and has a front in the data
pub record IsBeside (rows : List Row) (u : Slot) (q : InSlot) (d : Data) : Type 0 where
  pub slot : q.0 ≡ u
  pub room : ℕ
  pub front : Front rows room u q.1 d

abbrev pub AreBeside : List Row → Slot → List InSlot → List Data → Type 0
AreBeside rows u [] [] = Unit {0}
AreBeside rows u (q ∷ qs) (d ∷ ds) = IsBeside rows u q d × AreBeside rows u qs ds
AreBeside rows u [] (d ∷ ds) = ⊥
AreBeside rows u (q ∷ qs) [] = ⊥

-- parts with their keys
abbrev pub AreKeyed : List Row → Slot → List (List ℕ × InSlot) → List (List ℕ × Data) → Type 0
AreKeyed rows u [] [] = Unit {0}
AreKeyed rows u (q ∷ qs) (e ∷ es) = (q.0 ≡ e.0) × IsBeside rows u q.1 e.1 × AreKeyed rows u qs es
AreKeyed rows u [] (e ∷ es) = ⊥
AreKeyed rows u (q ∷ qs) [] = ⊥
