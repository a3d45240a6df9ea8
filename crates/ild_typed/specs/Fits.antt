-- Values of the type of a slot that nest at most so many levels (IPLD Schemas, "typed nodes"). Of a HAMT, all entries or
-- those in the block of its root.
use Rattle.std.specs.Prelude.{◌≡◌, ℕ, zero, suc, ◌-◌, ◌≤◌, IsTrue, IsSomeAnd, List, Some}
use Rattle.ild_data.specs.Data as T
use Rattle.ild_data.specs.Data.{Data}
use Rattle.ild_schema.specs.declared.number.Slot.{Slot}
use Rattle.ild_schema.specs.declared.number.TypeNo.{TypeNo}
use Rattle.ild_schema.specs.declared.def.TypeDef.{TypeDef}
use Rattle.ild_schema.specs.declared.row.Row.{Row}
use Rattle.ild_schema.specs.Value as V
use Rattle.ild_schema.specs.Value.{Value, values_list, pairs_list, optionals_list}
use Rattle.ild_schema.specs.Slots.{form_of, plainly}
use Rattle.ild_typed.specs.Hamt.{alone}
use Rattle.ild_typed.specs.Represented.{represented}
use Rattle.ild_typed.specs.Levels.{levels_of}
use Rattle.ild_typed.specs.Layers.{layer_of, RepresentsSome, LayerFits}

-- below says what fits where one level less and then so many more are left
abbrev pub FormFits : List Row → ℕ → (ℕ → Slot → Value → Type 0) → Value → TypeDef → Type 0
FormFits rows room below v d =
    (levels_of d v ≤ room) × IsSomeAnd (layer_of v) (LayerFits (below (levels_of d v - 1)) rows d)

abbrev pub ValueFits : List Row → ℕ → (ℕ → Slot → Value → Type 0) → Slot → Value → Type 0
ValueFits rows room below s V.null = IsTrue s.nullable
ValueFits rows room below s v = IsSomeAnd (form_of rows s) (FormFits rows room below v)

-- in so much room, of which so much is passed over
unfoldable pub FitsPast : List Row → ℕ → ℕ → Slot → Value → Type 0
FitsPast rows zero zero s v = ValueFits rows zero (λ over t w. ⊥) s v
FitsPast rows zero (suc over) s v = ⊥
FitsPast rows (suc room) zero s v = ValueFits rows (suc room) (FitsPast rows room) s v
FitsPast rows (suc room) (suc over) s v = FitsPast rows room over s v

abbrev pub Fits : List Row → ℕ → Slot → Value → Type 0
Fits rows room s v = FitsPast rows room zero s v

-- the texts of a type in text form
abbrev pub IsTextOf : List Row → TypeNo → List ℕ → Type 0
IsTextOf rows n k = (room : ℕ) × RepresentsSome (Fits rows room) rows (plainly n) (T.text k)

-- the front of data: what one block shows by itself
pub record Front (rows : List Row) (room : ℕ) (s : Slot) (f : Value) (d : Data) : Type 0 where
  pub fits : Fits rows room s f
  pub tree : represented alone rows s f ≡ Some d
