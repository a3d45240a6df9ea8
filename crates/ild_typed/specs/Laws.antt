-- The laws of representations: data tell one layer, one front and one value.
use Rattle.std.specs.Prelude.{◌≡◌, ◌↔◌, ℕ, List, Option, Some}
use Rattle.ild_data.specs.Data.{Data, text}
use Rattle.ild_schema.specs.declared.number.Slot.{Slot}
use Rattle.ild_schema.specs.declared.number.TypeNo.{TypeNo}
use Rattle.ild_schema.specs.declared.def.TypeDef.{TypeDef}
use Rattle.ild_schema.specs.declared.row.Row.{Row}
use Rattle.ild_schema.specs.Value.{Value}
use Rattle.ild_typed.specs.Tells.{Tells}
use Rattle.ild_schema.specs.Slots.{plainly}
use Rattle.ild_typed.specs.Composed.{Hamts, composed}
use Rattle.ild_typed.specs.Hamt.{whole, alone}
use Rattle.ild_typed.specs.Represented.{represented}
use Rattle.ild_schema.specs.Clear.{ClearType, IsSafe}
use Rattle.ild_typed.specs.Fits.{Front, IsTextOf}
use Rattle.ild_typed.specs.Known.{IsKept, HeldNode}
use Rattle.ild_typed.specs.Parts.{InLayers}
use Rattle.ild_typed.specs.Schema.{IsSchema}
use Rattle.ild_typed.specs.Typed.{Typed}

-- the data of a layer tell its form and the data of its parts
abbrev pub LayersTell : Type 0
LayersTell = (d : TypeDef) → ClearType d → Tells (composed alone d)

-- data have one front at most
abbrev pub OneFront : Type 0
OneFront =
    (rows : List Row) → IsSchema rows → (s : Slot) → IsSafe rows s
    → (m n : ℕ) (f g : Value) (d : Data) → Front rows m s f d → Front rows n s g d → f ≡ g

-- a text represents one value of a type at most
abbrev pub OneText : Type 0
OneText =
    (h : List ℕ → List ℕ) (rows : List Row) → IsSchema rows → (n : TypeNo) (v w : Value) (k : List ℕ)
    → represented (whole h) rows (plainly n) v ≡ Some (text k) → represented (whole h) rows (plainly n) w ≡ Some (text k) → v ≡ w

-- the texts of a type, which fronts tell, are those that represent a value of it
abbrev pub TextsRepresent : Type 0
TextsRepresent =
    (h : List ℕ → List ℕ) (rows : List Row) (n : TypeNo) (k : List ℕ)
    → IsTextOf rows n k ↔ ((v : Value) × Typed rows (plainly n) v × (represented (whole h) rows (plainly n) v ≡ Some (text k)))

-- a value is represented as null, or by one layer whose parts are represented
abbrev pub InLayersAll : Type 0
InLayersAll = (at : Hamts) → InLayers at

-- two whole values of one representation are one, where the nodes of their HAMTs are held
abbrev pub OneWhole : Type 0
OneWhole =
    (h : List ℕ → List ℕ) (block : List ℕ → Option (List ℕ)) (rows : List Row) → IsSchema rows → (s : Slot) → IsSafe rows s
    → (v w : Value) (d : Data) → IsKept h (HeldNode block) rows s v → IsKept h (HeldNode block) rows s w
    → represented (whole h) rows s v ≡ Some d → represented (whole h) rows s w ≡ Some d → v ≡ w
