-- A place in a value that a store holds.
use Rattle.std.specs.Prelude.{ℕ, List, Result, Ok, Err}
use Rattle.ild_data.specs.Data.{Data}
use Rattle.ild_edges.specs.Count.{Rose}
use Rattle.ild_edges.specs.Store.{Moment}
use Rattle.ild_path_inward.specs.Levels.{CanGo}
use Rattle.ild_path_place.specs.Tells.{root_at}
use Rattle.ild_path_place.specs.declared.fault.PathFault.{PathFault}
use Rattle.ild_path_place.specs.declared.fault.PathFault.TheVariants as F
use Rattle.ild_path_place.specs.declared.place.Place.{Place}
use Rattle.ild_schema.specs.declared.row.Row.{Row}
use Rattle.ild_typed.specs.At.{InSlot}
use Rattle.ild_view.specs.Whole.{IsWholeView}

-- its root view is that of the block of the value p, which is held
pub record IsRootedAt (h : List ℕ → List ℕ) (rows : List Row) (was : List (List ℕ)) (p : InSlot) (place : Place) : Type 0 where
  pub tree : Data
  pub goes : CanGo h rows was 96 p tree (root_at place)
  pub whole : IsWholeView (root_at place) tree

-- over every store: it failed only where faults rose
abbrev pub FailsOnly : {A : Type 0} → Moment → Result A PathFault → Moment → Type 0
FailsOnly m (Ok x) n = Unit {0}
FailsOnly m (Err F.Store) n = Rose m.faults n.faults
FailsOnly m (Err e) n = Unit {0}
