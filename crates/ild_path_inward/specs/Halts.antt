-- How far a path leads in one block, and what a room leaves there.
use Rattle.std.specs.Prelude.{◌≡◌, ℕ, List, [], ◌∷◌}
use Rattle.std.specs.Option.{option_map_or}
use Rattle.ild_path_edits.specs.Along.{room_below}
use Rattle.ild_path_edits.specs.Stop.{stopped}
use Rattle.ild_path_inward.specs.declared.halt.Halt.{Halt}
use Rattle.ild_schema.specs.declared.row.Row.{Row}
use Rattle.ild_typed.specs.At.{InSlot, seen}
use Rattle.ild_typed.specs.Segment.{part}
use Rattle.ild_view.specs.Parts.{IsPartView}

-- what a room leaves to the last part that a path reaches
abbrev pub room_stopped : List Row → ℕ → InSlot → List (List ℕ) → ℕ
room_stopped rows room p [] = room
room_stopped rows room p (s ∷ ss) = option_map_or (λ q. room_stopped rows (room_below rows room p s) q ss) (part (seen rows p) s) room

pub record HaltsAt (rows : List Row) (room : ℕ) (p : InSlot) (path : List (List ℕ)) (r : Halt) : Type 0 where
  pub view : IsPartView rows (stopped rows p path).part r.view
  pub left : r.left.now ≡ (stopped rows p path).left
  pub room_is : r.room ≡ room_stopped rows room p path
