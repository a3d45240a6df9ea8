-- A part of a piece, as it is handed out for a spot of the walk.
use Rattle.std.specs.List.{AllByRecursion}
use Rattle.std.specs.Prelude.{◌≡◌, ℕ, List, [], ◌∷◌, Option, Some, None}
use Rattle.ild_data.specs.Tree.{IsTree}
use Rattle.ild_layer_piece.specs.Pieces.{StandsFor}
use Rattle.ild_schema.specs.declared.row.Row.{Row}
use Rattle.ild_typed.specs.Fits.{Fits}
use Rattle.ild_typed.specs.Layers.{RepresentsSome}
use Rattle.ild_typed.specs.Spots.{Spot}
use Rattle.ild_layer_parts.specs.declared.part.Part.{Part}

pub record IsSpotted (rows : List Row) (x : Part) (p : Spot) : Type 0 where
  pub slot : x.slot ≡ p.slot
  pub key : x.is_key ≡ p.is_key
  pub stands : StandsFor rows x.piece p.tree

-- the part stands for the first of some spots
pub record TakesSpot (rows : List Row) (ps rest : List Spot) (x : Part) : Type 0 where
  pub first : Spot
  pub is : ps ≡ first ∷ rest
  pub spotted : IsSpotted rows x first

-- a value that fits in every room stands there
abbrev pub FitsAnywhere : List Row → Spot → Type 0
FitsAnywhere rows p = IsTree p.tree → (room : ℕ) → RepresentsSome (Fits rows room) rows p.slot p.tree

-- a part that is to be checked, or parts of which nothing is
abbrev pub IsFirst : List Row → Option Part → List Spot → Type 0
IsFirst rows None taken = AllByRecursion (FitsAnywhere rows) taken
IsFirst rows (Some x) taken = (p : Spot) × (taken ≡ p ∷ []) × IsSpotted rows x p
