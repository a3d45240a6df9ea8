-- The laws of places along a path.
use Rattle.std.specs.Prelude.{◌≡◌, ℕ, List, Some, Contains}
use Rattle.ild_schema.specs.declared.row.Row.{Row}
use Rattle.ild_typed.specs.At.{InSlot, at}
use Rattle.ild_typed_places.specs.Parts.{LieIn}
use Rattle.ild_typed_places.specs.Places.{children_of, places_in}

abbrev pub PlacesOfParts : Type 0
PlacesOfParts = (h : List ℕ → List ℕ) (rows : List Row) (p q : InSlot) (path : List (List ℕ)) → at rows p path ≡ Some q → LieIn (places_in h rows q.0 q.1) (places_in h rows p.0 p.1)

-- the ids of its children, as they are listed for each place
abbrev pub ChildrenOfParts : Type 0
ChildrenOfParts =
    (h : List ℕ → List ℕ) (rows : List Row) (p q : InSlot) (path : List (List ℕ)) → at rows p path ≡ Some q
    → (block : List ℕ) (ids : List (List ℕ)) → Contains (children_of h rows q block) ids → Contains (children_of h rows p block) ids
