-- Values without parts that are values: each is its own layer, and a front of one is the value.
use Rattle.std.specs.Prelude.{◌≡◌, ℕ, ℤ, true, List, Option, Some, None}
use Rattle.ild_data.specs.Data as T
use Rattle.ild_data.specs.Data.{Data}
use Rattle.ild_schema.specs.declared.def.EnumDef.{EnumDef}
use Rattle.ild_schema.specs.declared.def.TypeDef.{TypeDef}
use Rattle.ild_schema.specs.declared.def.TypeDef.TheVariants as D
use Rattle.ild_schema.specs.declared.number.Slot.{Slot}
use Rattle.ild_schema.specs.declared.row.Row.{Row}
use Rattle.ild_schema.specs.Slots.{form_of}
use Rattle.ild_schema.specs.Value as V
use Rattle.ild_schema.specs.Value.{Value}
use Rattle.ild_typed.specs.Composed.{composed}
use Rattle.ild_typed.specs.Fits.{Fits}
use Rattle.ild_typed.specs.Hamt.{alone}
use Rattle.ild_typed.specs.Layer as L
use Rattle.ild_typed.specs.Layer.{Layer}
use Rattle.ild_typed.specs.Layers.{RepresentsSome}
use Rattle.ild_typed.specs.Pieces.{is_null_there}
use Rattle.ild_typed.specs.Schema.{IsSchema}
use Rattle.ild_open_held.specs.Held.{IsHeld}
use Rattle.ild_open_held.specs.Laws.{IsFronted}

-- the value that a layer without parts is
abbrev pub leaf_of : {X : Type 0} → Layer X → Option Value
leaf_of (L.boolean b) = Some (V.boolean b)
leaf_of (L.integer n) = Some (V.integer n)
leaf_of (L.text s) = Some (V.text s)
leaf_of (L.bytes s) = Some (V.bytes s)
leaf_of (L.link s) = Some (V.link s)
leaf_of (L.any d) = Some (V.any d)
leaf_of L.unit = Some V.unit
leaf_of (L.enum n) = Some (V.enum n)
leaf_of l = None

-- data of a slot that are such a layer represent its value, whatever a store holds
abbrev pub LeavesAreHeld : Type 0
LeavesAreHeld =
    (block : List ℕ → Option (List ℕ)) (h : List ℕ → List ℕ) (rows : List Row) → IsSchema rows → (room : ℕ) (s : Slot) (t : Data) → IsFronted rows room s t
    → (d : TypeDef) (l : Layer Data) (v : Value) → form_of rows s ≡ Some d → leaf_of l ≡ Some v → composed alone d l ≡ Some t → IsHeld block h rows room s t v

-- and null, where it may stand
abbrev pub NullIsHeld : Type 0
NullIsHeld =
    (block : List ℕ → Option (List ℕ)) (h : List ℕ → List ℕ) (rows : List Row) (room : ℕ) (s : Slot) (t : Data) → is_null_there s t ≡ true → IsHeld block h rows room s t V.null
