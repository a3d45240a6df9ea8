-- The parts of data of a type, with values that they represent, and the value of the whole.
use Rattle.std.specs.Prelude.{◌≡◌, ℕ, ◌+◌, List, [], ◌∷◌, length, Option, Some, None}
use Rattle.std.specs.List.{AllByRecursion}
use Rattle.ild_data.specs.Data.{Data}
use Rattle.ild_schema.specs.declared.def.Field.{Field}
use Rattle.ild_schema.specs.declared.number.Slot.{Slot}
use Rattle.ild_schema.specs.declared.row.Row.{Row}
use Rattle.ild_schema.specs.Value.{Value, null, union}
use Rattle.ild_typed.specs.Blocks.{nodes}
use Rattle.ild_typed.specs.Fits.{Fits}
use Rattle.ild_typed.specs.Layers.{RepresentsSome}
use Rattle.ild_open_held.specs.Held.{IsHeld}

-- data in a slot
abbrev pub Part : Type 0
Part = Slot × Data

-- a value for each part
abbrev pub PartsHaveValues : (List ℕ → Option (List ℕ)) → (List ℕ → List ℕ) → List Row → ℕ → List Part → List Value → Type 0
PartsHaveValues block h rows room [] [] = Unit {0}
PartsHaveValues block h rows room [] (v ∷ vs) = ⊥
PartsHaveValues block h rows room (p ∷ ps) [] = ⊥
PartsHaveValues block h rows room (p ∷ ps) (v ∷ vs) = IsHeld block h rows room p.0 p.1 v × PartsHaveValues block h rows room ps vs

-- how many nodes their HAMTs have
abbrev pub nodes_in : (List ℕ → List ℕ) → List Row → List Part → List Value → ℕ
nodes_in h rows [] vs = 0
nodes_in h rows (p ∷ ps) [] = 0
nodes_in h rows (p ∷ ps) (v ∷ vs) = length (nodes h rows p.0 v) + nodes_in h rows ps vs

-- a front stands there that fits
abbrev pub HasFront : List Row → ℕ → Part → Type 0
HasFront rows room p = RepresentsSome (Fits rows room) rows p.0 p.1

-- the whole is made of values for its parts
pub record IsMadeOf (block : List ℕ → Option (List ℕ)) (h : List ℕ → List ℕ) (rows : List Row) (less : ℕ) (s : Slot) (ps : List Part) (make : List Value → Value) (v : Value) : Type 0 where
  pub values : List Value
  pub held : PartsHaveValues block h rows less ps values
  pub made : v ≡ make values
  pub many : length (nodes h rows s v) ≡ nodes_in h rows ps values

-- what data of a slot split into: they represent a value exactly where their parts do, with less room
pub record Splits (block : List ℕ → Option (List ℕ)) (h : List ℕ → List ℕ) (rows : List Row) (room : ℕ) (s : Slot) (t : Data) (less : ℕ) (ps : List Part) (make : List Value → Value) : Type 0 where
  pub fronts : AllByRecursion (HasFront rows less) ps
  pub up : (vs : List Value) → PartsHaveValues block h rows less ps vs → IsHeld block h rows room s t (make vs)
  pub back : (v : Value) → IsHeld block h rows room s t v → IsMadeOf block h rows less s ps make v

-- ---- the parts of each form

abbrev pub element_parts : Slot → List Data → List Part
element_parts s [] = []
element_parts s (d ∷ ds) = (s, d) ∷ element_parts s ds

abbrev pub entry_parts : Slot → List (List ℕ × Data) → List Part
entry_parts s [] = []
entry_parts s (e ∷ es) = (s, e.1) ∷ entry_parts s es

-- the entries with values in the place of their data
abbrev pub entry_values : List (List ℕ × Data) → List Value → List (List ℕ × Value)
entry_values [] vs = []
entry_values (e ∷ es) [] = []
entry_values (e ∷ es) (v ∷ vs) = (e.0, v) ∷ entry_values es vs

abbrev pub field_parts : List Field → List (Option Data) → List Part
field_parts [] os = []
field_parts (f ∷ fs) [] = []
field_parts (f ∷ fs) (None ∷ os) = field_parts fs os
field_parts (f ∷ fs) (Some d ∷ os) = (f.slot, d) ∷ field_parts fs os

-- the fields with values in the place of their data
abbrev pub field_values : List (Option Data) → List Value → List (Option Value)
field_values [] vs = []
field_values (None ∷ os) vs = None ∷ field_values os vs
field_values (Some d ∷ os) [] = None ∷ field_values os []
field_values (Some d ∷ os) (v ∷ vs) = Some v ∷ field_values os vs

-- the value of a union with the member of a number
abbrev pub union_of : ℕ → List Value → Value
union_of n [] = null
union_of n (v ∷ vs) = union n v
