-- The law of places.
use Rattle.std.specs.Prelude.{ℕ, List}
use Rattle.ild_edges.specs.Store.{Keeps}
use Rattle.ild_path_place.specs.Places.{IsPlace}
use Rattle.ild_path_place.specs.declared.place.Place.{Place}
use Rattle.ild_path_place.specs.declared.verb.Verb.{Verb}
use Rattle.ild_schema.specs.declared.row.Row.{Row}
use Rattle.ild_typed.specs.At.{InSlot}

-- what was held stays held
abbrev pub PlacesStay : Type 0
PlacesStay =
    (h : List ℕ → List ℕ) (rows : List Row) (was now : List (List ℕ)) (p : InSlot) (path : List (List ℕ)) (verb : Verb) (place : Place)
    → Keeps was now → IsPlace h rows was p path verb place → IsPlace h rows now p path verb place
