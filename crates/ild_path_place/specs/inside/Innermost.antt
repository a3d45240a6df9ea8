-- What is told of the end of a path in the innermost block: in the data of a view, or behind HAMTs that the path goes through.
use Rattle.std.specs.Prelude.{◌≡◌, ℕ, IfOk, List, Some, Result}
use Rattle.ild_data.specs.Data.{Data}
use Rattle.ild_data.specs.Spell.{id_of}
use Rattle.ild_edges.specs.Store.{Moment}
use Rattle.ild_path_found.specs.Sites.{block_in}
use Rattle.ild_path_hops.specs.declared.hop.Hop.{Hop}
use Rattle.ild_path_inward.specs.Halts.{room_stopped}
use Rattle.ild_path_inward.specs.Inwards.{CanGoOn}
use Rattle.ild_path_inward.specs.Refuses.{IsDataBehind, block_behind}
use Rattle.ild_path_place.specs.Holes.{VerbHole}
use Rattle.ild_path_place.specs.inside.Inner.{CanEnd, EndsThere, LeadsTo}
use Rattle.ild_path_place.specs.Refuses.{RefusesBroken}
use Rattle.ild_path_place.specs.Rooms.{HasRoom}
use Rattle.ild_path_place.specs.declared.ending.Found.{Found}
use Rattle.ild_path_place.specs.declared.fault.PathFault.{PathFault}
use Rattle.ild_path_place.specs.declared.verb.Verb.{Verb}
use Rattle.ild_schema.specs.Value.{Value}
use Rattle.ild_schema.specs.declared.number.Slot.{Slot}
use Rattle.ild_schema.specs.declared.row.Row.{Row}
use Rattle.ild_typed.specs.At.{InSlot}
use Rattle.ild_typed.specs.Fits.{Front}
use Rattle.ild_view.specs.View.{IsView, piece_of, slot_of}
use Rattle.ild_view.specs.declared.view.View.{View}

-- ---- in the data of a view

-- the room that its holder leaves at the segment
abbrev pub TellsRoom : (List ℕ → List ℕ) → List Row → View → List (List ℕ) → List ℕ → ℕ → Result Found PathFault → Type 0
TellsRoom h rows view front s room result =
    (was : List (List ℕ)) (limit : ℕ) (q holder : InSlot) (d : Data) → CanEnd h rows was limit q d view → LeadsTo rows limit q front room holder
    → IfOk result (λ found. HasRoom rows holder.0 room s found.room)

-- whether its holder has a hole after the verb
abbrev pub TellsHole : (List ℕ → List ℕ) → List Row → View → List (List ℕ) → List ℕ → ℕ → Verb → Result Found PathFault → Type 0
TellsHole h rows view front s room verb result =
    (was : List (List ℕ)) (limit : ℕ) (q holder : InSlot) (d : Data) → CanEnd h rows was limit q d view → LeadsTo rows limit q front room holder
    → IfOk result (λ found. VerbHole rows holder s verb found.hole)

-- a block is refused only where it is broken: the view's own, or one that hangs on it
abbrev pub RefusesAtEnd : (List ℕ → List ℕ) → List Row → View → List ℕ → List (List ℕ) → ℕ → Moment → Result Found PathFault → Moment → Type 0
RefusesAtEnd h rows view block front room m result n =
    (f : Value) (t : Data) (less : ℕ) → IsView view f → Front rows less (slot_of view) f t → room ≡ room_stopped rows less (slot_of view, f) front
    → RefusesBroken h rows (id_of block) less (slot_of view) t m result n

-- where the value is held, the end is found, or why not
abbrev pub FindsEnd : (List ℕ → List ℕ) → List Row → View → List (List ℕ) → List ℕ → ℕ → ℕ → Verb → Moment → Result Found PathFault → Moment → Type 0
FindsEnd h rows view front s k room verb m result n =
    (was : List (List ℕ)) (limit : ℕ) (q holder : InSlot) (d : Data) → m.blocks ≡ Some was → CanEnd h rows was limit q d view → LeadsTo rows limit q front room holder
    → EndsThere h rows was limit q front holder s k verb m result n

-- ---- the same behind HAMTs

abbrev pub TellsRoomBehind : (List ℕ → List ℕ) → List Row → View → List Hop → List (List ℕ) → List ℕ → ℕ → Result Found PathFault → Type 0
TellsRoomBehind h rows root hops front s room result =
    (was : List (List ℕ)) (limit : ℕ) (q holder : InSlot) (d : Data) → CanGoOn h rows was limit q d root hops → LeadsTo rows limit q front room holder
    → IfOk result (λ found. HasRoom rows holder.0 room s found.room)

abbrev pub TellsHoleBehind : (List ℕ → List ℕ) → List Row → View → List Hop → List (List ℕ) → List ℕ → ℕ → Verb → Result Found PathFault → Type 0
TellsHoleBehind h rows root hops front s room verb result =
    (was : List (List ℕ)) (limit : ℕ) (q holder : InSlot) (d : Data) → CanGoOn h rows was limit q d root hops → LeadsTo rows limit q front room holder
    → IfOk result (λ found. VerbHole rows holder s verb found.hole)

abbrev pub RefusesBehind : (List ℕ → List ℕ) → List Row → View → List Hop → List (List ℕ) → ℕ → Moment → Result Found PathFault → Moment → Type 0
RefusesBehind h rows root hops front room m result n =
    (s : Slot) (f : Value) (t : Data) (less : ℕ) → IsDataBehind rows root hops less s t f → room ≡ room_stopped rows less (s, f) front
    → RefusesBroken h rows (id_of (block_behind (block_in (piece_of root)) hops)) less s t m result n

abbrev pub FindsEndBehind : (List ℕ → List ℕ) → List Row → View → List Hop → List (List ℕ) → List ℕ → ℕ → ℕ → Verb → Moment → Result Found PathFault → Moment → Type 0
FindsEndBehind h rows root hops front s k room verb m result n =
    (was : List (List ℕ)) (limit : ℕ) (q holder : InSlot) (d : Data) → m.blocks ≡ Some was → CanGoOn h rows was limit q d root hops → LeadsTo rows limit q front room holder
    → EndsThere h rows was limit q front holder s k verb m result n
