-- The laws of ways: where the way of a part leads to an item, and the way of a refusal.
use Rattle.std.specs.Prelude.{◌≡◌, ℕ, List, ◌++◌, Some}
use Rattle.std.specs.List.{AllByRecursion}
use Rattle.ild_data.specs.Data.{Data}
use Rattle.ild_data.specs.Tree.{IsTree}
use Rattle.ild_schema.specs.declared.number.Slot.{Slot}
use Rattle.ild_schema.specs.declared.def.TypeDef.{TypeDef}
use Rattle.ild_schema.specs.declared.row.Row.{Row}
use Rattle.ild_schema.specs.Slots.{form_of}
use Rattle.ild_typed.specs.Refused.{Refusal, AreParts, Refused}
use Rattle.ild_typed.specs.Schema.{IsSchema}
use Rattle.ild_typed.specs.Spots.{Step, Spot}
use Rattle.ild_typed.specs.Ways.{found_at}

-- a way leads to an item
abbrev pub Leads : List Step → Data → Type 0
Leads way d = (p : ℕ × Data) × (found_at way d ≡ Some p)

-- a way that leads to an item in a part leads, behind the way of the part, to an item in the whole
abbrev pub IsReached : Data → Spot → Type 0
IsReached t p = (way : List Step) → Leads way p.tree → Leads (p.at ++ way) t

-- so do the ways of all parts of a tree of a type
abbrev pub PartsAreReached : Type 0
PartsAreReached =
    (rows : List Row) → IsSchema rows → (s : Slot) (d : TypeDef) → form_of rows s ≡ Some d
    → (t : Data) (ps : List Spot) → IsTree t → AreParts d t ps → AllByRecursion (IsReached t) ps

-- and that of a refusal leads to the item that is refused
abbrev pub RefusalsAreReached : Type 0
RefusalsAreReached =
    (rows : List Row) → IsSchema rows → (room : ℕ) (s : Slot) (t : Data) (r : Refusal) → IsTree t → Refused rows room s t r → Leads r.at t
