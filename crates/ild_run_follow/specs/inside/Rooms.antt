-- Where a path leads in one block, and what a room leaves to the part there.
use Rattle.std.specs.Prelude.{◌≡◌, ℕ, List, [], ◌∷◌, Result}
use Rattle.std.specs.Option.{option_map_or}
use Rattle.ild_path_edits.specs.Along.{room_below}
use Rattle.ild_schema.specs.Value.{Value}
use Rattle.ild_schema.specs.declared.row.Row.{Row}
use Rattle.ild_typed.specs.At.{InSlot, reached, seen}
use Rattle.ild_typed.specs.Segment.{part}
use Rattle.ild_view.specs.Reaches.{Reaches}
use Rattle.ild_view.specs.View.{IsView, slot_of, table_of}
use Rattle.ild_view.specs.declared.step.NoPath.{NoPath}
use Rattle.ild_view.specs.declared.step.Step.{Step}
use Rattle.ild_view.specs.declared.view.View.{View}

-- what is reached of every front of a view, where segments are counted from k on
abbrev pub Steps : View → ℕ → List (List ℕ) → Result Step NoPath → Type 0
Steps view k path step = (f : Value) → IsView view f → Reaches (table_of view) (reached (table_of view) k (slot_of view, f) path) step

-- what is left to the last part that a path reaches
abbrev pub room_reached : List Row → ℕ → InSlot → List (List ℕ) → ℕ
room_reached rows room p [] = room
room_reached rows room p (s ∷ ss) = option_map_or (λ q. room_reached rows (room_below rows room p s) q ss) (part (seen rows p) s) room

-- so much is left, whatever front the view has
abbrev pub LeavesRoom : View → ℕ → List (List ℕ) → ℕ → Type 0
LeavesRoom view room path left = (f : Value) → IsView view f → left ≡ room_reached (table_of view) room (slot_of view, f) path
