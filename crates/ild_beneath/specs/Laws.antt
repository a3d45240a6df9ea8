-- The children that blocks tell are the places of values.
use Rattle.std.specs.Prelude.{◌≡◌, ℕ, List, Some}
use Rattle.ild_cbor.specs.Block.{IsBlockOf}
use Rattle.ild_data.specs.Data.{Data}
use Rattle.ild_schema.specs.Value.{Value}
use Rattle.ild_schema.specs.Slots.{plainly}
use Rattle.ild_schema.specs.declared.number.TypeNo.{TypeNo}
use Rattle.ild_schema.specs.declared.row.Row.{Row}
use Rattle.ild_typed.specs.Schema.{IsSchema}
use Rattle.ild_typed.specs.Stands.{Storable, bare}
use Rattle.ild_typed_places.specs.Places.{places_in}
use Rattle.ild_beneath.specs.Children.{AreOf, children_in, data_in}

-- what the root block of a value tells is what stands beneath it, and so on down
abbrev pub ChildrenArePlaces : Type 0
ChildrenArePlaces =
    (h : List ℕ → List ℕ) (rows : List Row) → IsSchema rows → (ty : TypeNo) (v : Value) (t : Data) → Storable bare h rows ty v t
    → AreOf rows ty (children_in rows ty 0 t) (places_in h rows (plainly ty) v)

-- the data of a block are read from it
abbrev pub DataAreRead : Type 0
DataAreRead = (b : List ℕ) (d : Data) → IsBlockOf b d → data_in b ≡ Some d
