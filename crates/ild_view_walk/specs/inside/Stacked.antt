-- Parts that are still to be looked at, as spots of the walk, and what opening one of them comes to.
use Rattle.std.specs.Prelude.{◌≡◌, ℕ, ◌⊎◌, Bool, true, false, List, [], ◌∷◌, ◌++◌}
use Rattle.std.specs.List.{AllByRecursion}
use Rattle.ild_data.specs.Data.{depth}
use Rattle.ild_data.specs.Tree.{IsTree}
use Rattle.ild_schema.specs.Clear.{IsSafe}
use Rattle.ild_schema.specs.declared.row.Row.{Row}
use Rattle.ild_typed.specs.Fits.{Fits}
use Rattle.ild_typed.specs.Layers.{RepresentsSome}
use Rattle.ild_typed.specs.Spots.{Spot}
use Rattle.ild_layer_parts.specs.declared.part.Part.{Part}
use Rattle.ild_layer_parts.specs.Part.{FitsAnywhere, IsSpotted}
use Rattle.ild_layer_parts.specs.Ready.{IsReady}

-- a value of the slot stands there, however deep it nests
abbrev pub IsShown : List Row → Spot → Type 0
IsShown rows p = (room : ℕ) × RepresentsSome (Fits rows room) rows p.slot p.tree

-- a tree without parts of its own, as texts are, where null is told apart from values
pub record IsPlain (rows : List Row) (p : Spot) : Type 0 where
  pub tree : IsTree p.tree
  pub flat : depth p.tree ≡ 0
  pub safe : IsSafe rows p.slot

pub record PartIsAt (rows : List Row) (x : Part) (p : Spot) : Type 0 where
  pub spotted : IsSpotted rows x p
  pub ready : IsReady rows x

abbrev pub PartsAreAt : List Row → List Part → List Spot → Type 0
PartsAreAt rows [] [] = Unit {0}
PartsAreAt rows [] (p ∷ ps) = ⊥
PartsAreAt rows (x ∷ xs) [] = ⊥
PartsAreAt rows (x ∷ xs) (p ∷ ps) = PartIsAt rows x p × PartsAreAt rows xs ps

-- all but some at which a value stands that fits in every room
abbrev pub AreSifted : List Row → List Spot → List Spot → Type 0
AreSifted rows [] qs = qs ≡ []
AreSifted rows (p ∷ ps) qs = (FitsAnywhere rows p × AreSifted rows ps qs) ⊎ ((rest : List Spot) × (qs ≡ p ∷ rest) × AreSifted rows ps rest)

-- these parts were added, for spots of which something is to be checked
pub record Adds (rows : List Row) (ps : List Spot) (old new : List Part) : Type 0 where
  pub added : List Part
  pub is : new ≡ old ++ added
  pub spots : List Spot
  pub sifted : AreSifted rows ps spots
  pub held : PartsAreAt rows added spots

-- in place of a part its own parts are left
pub record Replaces (rows : List Row) (p : Spot) (old new : List Part) : Type 0 where
  pub added : List Part
  pub is : new ≡ old ++ added
  pub spots : List Spot
  pub held : PartsAreAt rows added spots
  pub plain : AllByRecursion (IsPlain rows) spots
  pub onward : IsShown rows p → AllByRecursion (IsShown rows) spots
  pub back : AllByRecursion (IsShown rows) spots → IsShown rows p

abbrev pub Spreads : List Row → Spot → List Part → List Part → Bool → Type 0
Spreads rows p old new true = Replaces rows p old new
Spreads rows p old new false = IsShown rows p → ⊥
