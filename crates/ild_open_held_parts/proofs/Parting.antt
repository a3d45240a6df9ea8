-- A part of a value that is held is held.
use Rattle.std.proofs.Common.{◌≡◌, ℕ, ◌-◌, ◌≤◌, List, Option, Some, refl, arith}
use Rattle.ild_data.specs.Data.{Data}
use Rattle.ild_path_edits.proofs.Depth.{room_is_layered}
use Rattle.ild_path_edits.proofs.KeepTyped.{of_type_is_kept}
use Rattle.ild_path_edits.proofs.RoomTests.{schemas_have_tests}
use Rattle.ild_path_edits.specs.Along.{room_below, taken}
use Rattle.ild_open_held.specs.Held.{IsHeld, IsHeldBlock}
use Rattle.ild_path_changes.proofs.HaveTrees.{has_trees}
use Rattle.ild_path_changes.proofs.Represented.{represents}
use Rattle.ild_path_changes.specs.LiftLaws.{of_values}
use Rattle.ild_value_meaning.proofs.Told.{told}
use Rattle.ild_schema.proofs.Legibly.{legible}
use Rattle.ild_schema.specs.declared.row.Row.{Row}
use Rattle.ild_schema.specs.Slots.{form_of}
use Rattle.ild_typed.proofs.Rooms.{fits_more}
use Rattle.ild_typed.specs.At.{InSlot, seen}
use Rattle.ild_typed.specs.Fits.{Fits}
use Rattle.ild_typed.specs.Hamt.{whole}
use Rattle.ild_typed.specs.OfType.{OfType}
use Rattle.ild_typed.specs.Schema.{IsSchema}
use Rattle.ild_typed.specs.Segment.{part}
use Rattle.ild_open_held_parts.specs.Laws.{PartsAreHeld}
use Rattle.ild_open_held_parts.proofs.Nodes.{part_nodes}

less : (room n : ℕ) → room - n ≤ room
less room n = omega arith

-- a part of what fits in a room fits there, also of a front
pub part_fits : (rows : List Row) → IsSchema rows → (room : ℕ) (p q : InSlot) (s : List ℕ) → Fits rows room p.0 p.1 → part (seen rows p) s ≡ Some q → Fits rows room q.0 q.1
part_fits rows schema room p q s fits is =
    let tests = schemas_have_tests rows schema in
    let typed : OfType rows p.0 p.1 = (room, fits) in
    let own = (room_is_layered rows tests.0.is_key schema tests.1.keys).parts room p q s typed fits is in
    fits_more rows (room_below rows room p s) room (less room (taken (form_of rows p.0))) q.0 q.1 own

pub parts_are_held : PartsAreHeld
parts_are_held = λ block h rows schema room p q t s held is.
    let tests = schemas_have_tests rows schema in
    let is_key = tests.0.is_key in
    let keys = tests.1.keys in
    let kept = of_type_is_kept rows is_key schema keys in
    let r = represents rows is_key (told rows schema).apart (told rows schema).any_there keys (legible rows schema.accepted).clear (whole h) (has_trees (whole h) rows (of_values h refl) schema.table.texts.spelled) kept in
    let typed : OfType rows p.0 p.1 = (room, held.fits) in
    let d = r.parts p q s t typed is held.tree in (
      d.0,
      record {
        fits = part_fits rows schema room p q s held.fits is;
        tree = d.1;
        held = part_nodes (IsHeldBlock block) h rows p.0 p.1 s q is held.held;
      },
    )
