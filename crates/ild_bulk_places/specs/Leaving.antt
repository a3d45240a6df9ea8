-- What puts of blocks in such an order leave in a store, wherever they stop.
use Rattle.std.specs.Prelude.{◌≡◌, ◌⊎◌, ℕ, List, [], Some, Result, Contains}
use Rattle.std.specs.List.{AllByRecursion}
use Rattle.ild_bulk.specs.Putting.{PutsAll}
use Rattle.ild_data.specs.Spell.{id_of}
use Rattle.ild_edges.specs.Store.{Moment, block_at}
use Rattle.ild_edges.specs.Told.{BothTold}
use Rattle.ild_node_slots.specs.declared.fault.HamtFault.{HamtFault}
use Rattle.ild_typed_places.specs.Places.{Place, Places, each_place, tops}
use Rattle.ild_bulk_places.specs.Following.{FollowsIn}

-- the block stands at one of the places, where all its children are held
pub record HasPlaceHeld (ps : Places) (held : List (List ℕ)) (b : List ℕ) : Type 0 where
  pub at : Place
  pub among : Contains (each_place ps) at
  pub is : at.0 ≡ b
  pub children : AllByRecursion (λ c. block_at held (id_of c) ≡ Some c) (tops at.1)

-- each block that is held now was held, or has its children held
abbrev pub AddsPlaced : Places → List (List ℕ) → List (List ℕ) → Type 0
AddsPlaced ps was now = (id b : List ℕ) → block_at now id ≡ Some b → (block_at was id ≡ Some b) ⊎ HasPlaceHeld ps now b

abbrev pub PutsLeavePlaces : Type 0
PutsLeavePlaces =
    (ps : Places) (m n : Moment) (bs : List (List ℕ)) (r : Result (Unit {0}) HamtFault) → FollowsIn ps [] bs → PutsAll m bs r n → BothTold m.blocks n.blocks (AddsPlaced ps)
