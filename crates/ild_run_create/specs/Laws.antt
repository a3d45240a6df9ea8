-- The laws of what bytes make: one value, or none for one first cause, and not both.
use Rattle.std.specs.Prelude.{◌≡◌, ℕ, List}
use Rattle.ild_data.specs.Data.{Data}
use Rattle.ild_schema.specs.declared.number.TypeNo.{TypeNo}
use Rattle.ild_schema.specs.declared.row.Row.{Row}
use Rattle.ild_schema.specs.Value.{Value}
use Rattle.ild_typed.specs.Schema.{IsSchema}
use Rattle.ild_run_create.specs.Makes.{Makes}
use Rattle.ild_run_create.specs.Refuses.{Refuses, IsFirst}
use Rattle.ild_run_create.specs.declared.fault.Refusal.{Refusal}

abbrev pub OneIsMade : Type 0
OneIsMade = (h : List ℕ → List ℕ) (rows : List Row) → IsSchema rows → (n : TypeNo) (b : List ℕ) (v w : Value) (d e : Data) → Makes h rows n b v d → Makes h rows n b w e → (v ≡ w) × (d ≡ e)

-- what is made has none of the causes
abbrev pub MadeAreUnrefused : Type 0
MadeAreUnrefused = (h : List ℕ → List ℕ) (rows : List Row) → IsSchema rows → (n : TypeNo) (b : List ℕ) (v : Value) (d : Data) (r : Refusal) → Makes h rows n b v d → Refuses h rows n b r → ⊥

abbrev pub OneIsFirst : Type 0
OneIsFirst = (h : List ℕ → List ℕ) (rows : List Row) (n : TypeNo) (b : List ℕ) (q r : Refusal) → IsFirst h rows n b q → IsFirst h rows n b r → q ≡ r
