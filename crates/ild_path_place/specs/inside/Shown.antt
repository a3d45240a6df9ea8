-- A part in one block, as the view of the whole shows it.
use Rattle.std.specs.Prelude.{List, Option}
use Rattle.ild_schema.specs.Value.{Value}
use Rattle.ild_schema.specs.declared.row.Row.{Row}
use Rattle.ild_typed.specs.At.{InSlot}
use Rattle.ild_view.specs.Parts.{HandsOut}
use Rattle.ild_view.specs.View.{IsView, slot_of, table_of}
use Rattle.ild_view.specs.declared.view.View.{View}

-- the view of what each front for which the whole stands has there
abbrev pub ShowsPart : View → (List Row → InSlot → Option InSlot) → Option View → Type 0
ShowsPart view part result = (f : Value) → IsView view f → HandsOut (table_of view) (part (table_of view) (slot_of view, f)) result
